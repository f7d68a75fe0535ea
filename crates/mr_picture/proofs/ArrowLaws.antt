-- What arrows are, and where paths of lanes and arrows lead.
use Rattle.mr_picture.proofs.Common.{◌≡◌, ℕ, zero, suc, ◌+◌, ◌-◌, ◌<◌, ◌≤◌, inl, inr, Bool, true, false, List, refl, sym, subst, ◌∙◌, arith, and_from, and_parts, cases_Bool, eq-eqb, false≢true, ne_eqb, ◌==◌, ◌&&◌, not, Contains, list_any, range_with_len, Footprint, Pair, Edge, HappensBefore, thread_at, happens_before, HappensBefore-before, any_range_at, happens_before_is, Span, arrow_from, arrows, arrows_to, lies_between, steps_in}
use Rattle.std.proofs.Common.{◌≢◌}
use native.Mathlib.Decide.{ℕ_discrete}
use Rattle.mr_event.specs.Order.Edge.{in_thread}
use Rattle.mr_event.specs.Order.HappensBefore.{edge, chain}
use Rattle.mr_event.proofs.Tests.{any_range, not_false}
use Rattle.mr_picture.specs.Arrows.{Joined, inside, is_arrow}
use Rattle.mr_picture.specs.Arrows.Joined.{lane, arrow, behind}
use Rattle.mr_picture.proofs.Members.{from_flat, from_range, into_flat, into_range, passed, tested}

-- ---- what an arrow is

pub record IsArrow (run : List Footprint) (span : Span) (i j : ℕ) : Type 0 where
  pub low : span.from ≤ i
  pub rising : i < j
  pub high : j < span.to
  pub apart : thread_at run i ≢ thread_at run j
  pub before : HappensBefore run i j
  pub next : (k : ℕ) → HappensBefore run i k → ¬ HappensBefore run k j

-- no step lies between two others
next_to : (run : List Footprint) (i j : ℕ) → list_any (lies_between run i j) (inside i j) ≡ false → (k : ℕ)
    → HappensBefore run i k → ¬ HappensBefore run k j
next_to run i j none k first second =
    let low = HappensBefore-before first in
    let high = HappensBefore-before second in
    let found = any_range_at (lies_between run i j) (i + 1) (j - (i + 1)) k (omega (arith, low)) (omega (arith, low, high))
    (and_from (happens_before run i k) (happens_before run k j) ((happens_before_is run i k).1 first)
    ((happens_before_is run k j).1 second)) in
    false≢true (sym none ∙ found)

is_false : (b : Bool) → not b ≡ true → b ≡ false
is_false true e = sym e
is_false false e = refl

arrow_means : (run : List Footprint) (span : Span) (i j : ℕ) → span.from ≤ i → j < span.to → is_arrow run i j ≡ true
    → IsArrow run span i j
arrow_means run span i j low high e =
    let both = and_parts (not (thread_at run i == thread_at run j))
    (happens_before run i j && not (list_any (lies_between run i j) (inside i j))) e in
    let rest = and_parts (happens_before run i j) (not (list_any (lies_between run i j) (inside i j))) both.1 in
    let before = (happens_before_is run i j).0 rest.0 in
    let differ = is_false (thread_at run i == thread_at run j) both.0 in
    record {
      low = low;
      rising = HappensBefore-before before;
      high = high;
      apart = λ same. false≢true (sym differ ∙ eq-eqb (thread_at run i) (thread_at run j) same);
      before = before;
      next = next_to run i j (is_false (list_any (lies_between run i j) (inside i j)) rest.1);
    }

-- an arrow is one
pub arrow_is : (run : List Footprint) (span : Span) (a : Pair) → Contains (arrows run span) a
    → IsArrow run span a.first a.second
arrow_is run span a h =
    let second = from_flat (arrows_to run span.from) (steps_in span) a h in
    let j = second.0 in
    let first = from_flat (arrow_from run j) (range_with_len span.from (j - span.from)) a second.2 in
    let i = first.0 in
    let above = from_range span.from (span.to - span.from) j second.1 in
    let below = from_range span.from (j - span.from) i first.1 in
    let found = tested (is_arrow run i j) (record { first = i; second = j }) a first.2 in
    subst (λ (p : Pair). IsArrow run span p.first p.second) found.1
    (arrow_means run span i j below.0 (omega (arith, above)) found.0)

-- where two steps are next to each other, there is an edge
pub next_is_edge : {run : List Footprint} {i j : ℕ} → HappensBefore run i j
    → ((k : ℕ) → HappensBefore run i k → ¬ HappensBefore run k j) → Edge run i j
next_is_edge (edge e) next = e
next_is_edge (chain {j = k} p q) next = absurd (next k p q)

-- ---- paths

-- an arrow is drawn from a step to one that is next to it, of another thread
is_drawn : (run : List Footprint) (span : Span) (i j : ℕ) → span.from ≤ i → j < span.to → HappensBefore run i j
    → thread_at run i ≢ thread_at run j → list_any (lies_between run i j) (inside i j) ≡ false
    → Contains (arrows run span) (record { first = i; second = j })
is_drawn run span i j low high before apart none =
    let rising = HappensBefore-before before in
    let is = and_from (not (thread_at run i == thread_at run j))
    (happens_before run i j && not (list_any (lies_between run i j) (inside i j)))
    (not_false (thread_at run i == thread_at run j) (ne_eqb (thread_at run i) (thread_at run j) apart))
    (and_from (happens_before run i j) (not (list_any (lies_between run i j) (inside i j)))
    ((happens_before_is run i j).1 before) (not_false (list_any (lies_between run i j) (inside i j)) none)) in
    into_flat (arrows_to run span.from) (steps_in span) j (record { first = i; second = j })
    (into_range span.from (span.to - span.from) j (omega (arith, low, rising)) (omega (arith, low, rising, high)))
    (into_flat (arrow_from run j) (range_with_len span.from (j - span.from)) i (record { first = i; second = j })
    (into_range span.from (j - span.from) i low (omega (arith, low, rising)))
    (passed (is_arrow run i j) (record { first = i; second = j }) is))

-- a path leads over a step that lies between
over : (run : List Footprint) (span : Span) (n i j : ℕ) → j ≤ i + suc n → span.from ≤ i → j < span.to
    → ((a b : ℕ) → b ≤ a + n → span.from ≤ a → b < span.to → HappensBefore run a b → Joined run (arrows run span) a b)
    → (k : ℕ) × (i + 1 ≤ k) × (k < (i + 1) + (j - (i + 1))) × (lies_between run i j k ≡ true)
    → Joined run (arrows run span) i j
over run span n i j near low high nearer found =
    let k = found.0 in
    let both = and_parts (happens_before run i k) (happens_before run k j) found.3 in
    let first = (happens_before_is run i k).0 both.0 in
    let second = (happens_before_is run k j).0 both.1 in
    let above = HappensBefore-before first in
    let below = HappensBefore-before second in
    behind (nearer i k (omega (arith, near, below)) low (omega (arith, below, high)) first)
    (nearer k j (omega (arith, near, above)) (omega (arith, low, above)) high second)

joined_within : (run : List Footprint) (span : Span) (n i j : ℕ) → j ≤ i + n → span.from ≤ i → j < span.to
    → HappensBefore run i j → Joined run (arrows run span) i j
joined_within run span zero i j near low high before =
    let rising = HappensBefore-before before in absurd (omega (arith, near, rising))
joined_within run span (suc n) i j near low high before =
    elim (ℕ_discrete (thread_at run i) (thread_at run j)) [
      | yes same ↦ lane (HappensBefore-before before) same
      | no apart ↦
          elim (cases_Bool (list_any (lies_between run i j) (inside i j))) [
            | inl some ↦
                over run span n i j near low high (joined_within run span n)
                (any_range (lies_between run i j) (i + 1) (j - (i + 1)) some)
            | inr none ↦ arrow (is_drawn run span i j low high before apart none)
          ]
    ]

pub joined : (run : List Footprint) (span : Span) (i j : ℕ) → span.from ≤ i → j < span.to → HappensBefore run i j
    → Joined run (arrows run span) i j
joined run span i j low high before = joined_within run span j i j (omega arith) low high before

pub joined_before : {run : List Footprint} (span : Span) {i j : ℕ} → Joined run (arrows run span) i j
    → HappensBefore run i j
joined_before span (lane rising same) = edge (in_thread rising same)
joined_before {run = run} span (arrow {i = i} {j = j} h) =
    (arrow_is run span (record { first = i; second = j }) h).before
joined_before span (behind p q) = chain (joined_before span p) (joined_before span q)
