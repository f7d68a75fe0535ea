-- What happens-before is: it goes forward, has a last edge, and is closed along a thread.
use Rattle.mr_rust_order.proofs.Common.{◌≡◌, ℕ, ◌<◌, ◌≤◌, List, refl, sym, subst, inl, inr, arith, ℕ_discrete, Footprint, thread_at, Reaches, Edge, HappensBefore, IsReadBy, in_thread, started, handed_over, joined, stored, edge, chain}
use Rattle.mr_rust_order.specs.Order.{IsInSequence}
use Rattle.mr_rust_order.specs.Order.IsInSequence.{first, update}

pub Edge-before : {run : List Footprint} {i j : ℕ} → Edge run i j → i < j
Edge-before (in_thread lt same) = lt
Edge-before (started lt woken) = lt
Edge-before (handed_over lock lt released acquired) = lt
Edge-before (joined lt ended joins) = lt
Edge-before (stored byte r) = r.before

pub HappensBefore-before : {run : List Footprint} {i j : ℕ} → HappensBefore run i j → i < j
HappensBefore-before (edge e) = Edge-before e
HappensBefore-before (chain p q) =
    let a = HappensBefore-before p in
    let b = HappensBefore-before q in
    omega arith

-- what reaches a step that has an edge to another happens before that one
pub reach_edge : (run : List Footprint) (k s j : ℕ) → Reaches run k s → Edge run s j → HappensBefore run k j
reach_edge run k s j (inl same) e = subst (λ (m : ℕ). HappensBefore run m j) (sym same) (edge e)
reach_edge run k s j (inr h) e = chain h (edge e)

reach_behind : (run : List Footprint) (i m k : ℕ) → HappensBefore run i m → Reaches run m k → Reaches run i k
reach_behind run i m k p (inl same) = inr (subst (λ (x : ℕ). HappensBefore run i x) same p)
reach_behind run i m k p (inr q) = inr (chain p q)

-- what reaches a step that reaches another reaches that one
pub reach_on : (run : List Footprint) (i k s : ℕ) → Reaches run i k → Reaches run k s → Reaches run i s
reach_on run i k s (inl same) r = subst (λ (m : ℕ). Reaches run m s) (sym same) r
reach_on run i k s (inr h) r = reach_behind run i k s h r

-- what reaches a step is not later
pub reach_up_to : (run : List Footprint) (i k : ℕ) → Reaches run i k → i ≤ k
reach_up_to run i k (inl same) = omega (arith, same)
reach_up_to run i k (inr h) = let lt = HappensBefore-before h in omega (arith, lt)

-- the last edge of a chain
pub last_edge : (run : List Footprint) {i j : ℕ} → HappensBefore run i j → (k : ℕ) × Reaches run i k × Edge run k j
last_edge run (edge {i = m} e) = (m, inl refl, e)
last_edge run (chain {i = m} {j = n} p q) = let t = last_edge run q in (t.0, reach_behind run m n t.0 p t.1, t.2)

-- a step of a thread is a later one, or happens before it
pub reach_in_thread : (run : List Footprint) (k s : ℕ) → k ≤ s → thread_at run k ≡ thread_at run s → Reaches run k s
reach_in_thread run k s le same = elim (ℕ_discrete k s) [
  | yes is ↦ inl is
  | no ne ↦ inr (edge (in_thread (omega (arith, le, ne)) same))
]

-- what happens before a later step of a thread, or is it, so does an earlier one
pub before_from : (run : List Footprint) (i s j : ℕ) → Reaches run i s → HappensBefore run s j → HappensBefore run i j
before_from run i s j (inl same) h = subst (λ (m : ℕ). HappensBefore run m j) (sym same) h
before_from run i s j (inr p) h = chain p h

-- a release sequence passes its order on
pub sequence_before : (run : List Footprint) (byte i other u j : ℕ) → IsInSequence run byte i u → IsReadBy run u j other → HappensBefore run i j
sequence_before run byte i other u j first r = edge (stored other r)
sequence_before run byte i other u j (update {u = m} {v = n} s r) q = chain (sequence_before run byte i byte m n s r) (edge (stored other q))
