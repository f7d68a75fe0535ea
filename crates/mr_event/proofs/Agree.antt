-- The order of two steps depends on the steps up to the later one alone.
use Rattle.mr_event.proofs.Common.{◌≡◌, ℕ, ◌<◌, List, true, sym, ◌∙◌, ap, arith, some_race, Footprint, depends, wakes, step_at, thread_at, Sync, Races, Edge, HappensBefore, in_thread, woken, dependent, edge, chain}
use Rattle.mr_event.proofs.Ordered.{HappensBefore-before}

-- the two runs have the same steps below n
pub record Agree (n : ℕ) (run run' : List Footprint) : Type 0 where
  pub same : (i : ℕ) → i < n → step_at run i ≡ step_at run' i

pub Agree-sym : (n : ℕ) (run run' : List Footprint) → Agree n run run' → Agree n run' run
Agree-sym n run run' a = record { same = λ i lt. sym (a.same i lt) }

thread_agree : (n : ℕ) (run run' : List Footprint) → Agree n run run' → (i : ℕ) → i < n → thread_at run i ≡ thread_at run' i
thread_agree n run run' a i lt = ap (λ f. f.thread) (a.same i lt)

wakes_agree : (f f' g g' : Footprint) → f ≡ f' → g ≡ g' → wakes f g.thread ≡ true → wakes f' g'.thread ≡ true
wakes_agree f f' g g' p q w = rw (← p, ← q) w

depends_agree : (f f' g g' : Footprint) → f ≡ f' → g ≡ g' → depends f g ≡ true → depends f' g' ≡ true
depends_agree f f' g g' p q w = rw (← p, ← q) w

race_agree : (f f' g g' : Footprint) → f ≡ f' → g ≡ g' → some_race f.accesses g.accesses ≡ true → some_race f'.accesses g'.accesses ≡ true
race_agree f f' g g' p q w = rw (← p, ← q) w

pub Sync-agree : (n : ℕ) (run run' : List Footprint) → Agree n run run' → (i j : ℕ) → j < n → Sync run i j → Sync run' i j
Sync-agree n run run' a i j lt s =
    let below : i < j = s.before in
    record {
      before = s.before;
      woken = wakes_agree _ _ _ _ (a.same i (omega arith)) (a.same j lt) s.woken;
      first = λ k low high e. s.first k low high (thread_agree n run run' a k (omega arith) ∙ e ∙ sym (thread_agree n run run' a j lt));
    }

pub Races-agree : (n : ℕ) (run run' : List Footprint) → Agree n run run' → (i j : ℕ) → i < j → j < n → Races run i j → Races run' i j
Races-agree n run run' a i j below lt r =
    let lt_i : i < n = omega arith in
    record {
      apart = λ e. r.apart (thread_agree n run run' a i lt_i ∙ e ∙ sym (thread_agree n run run' a j lt));
      race = race_agree _ _ _ _ (a.same i lt_i) (a.same j lt) r.race;
      unsynced = λ s. r.unsynced (Sync-agree n run' run (Agree-sym n run run' a) i j lt s);
    }

pub Edge-agree : (n : ℕ) (run run' : List Footprint) → Agree n run run' → (i j : ℕ) → j < n → Edge run i j → Edge run' i j
Edge-agree n run run' a i j lt (in_thread below e) =
    in_thread below (sym (thread_agree n run run' a i (omega arith)) ∙ e ∙ thread_agree n run run' a j lt)
Edge-agree n run run' a i j lt (woken s) = woken (Sync-agree n run run' a i j lt s)
Edge-agree n run run' a i j lt (dependent below d none) =
    dependent below (depends_agree _ _ _ _ (a.same i (omega arith)) (a.same j lt) d) (λ r. none (Races-agree n run' run (Agree-sym n run run' a) i j below lt r))

pub HappensBefore-agree : (n : ℕ) (run run' : List Footprint) → Agree n run run' → {i j : ℕ} → j < n → HappensBefore run i j → HappensBefore run' i j
HappensBefore-agree n run run' a lt (edge e) = edge (Edge-agree n run run' a _ _ lt e)
HappensBefore-agree n run run' a lt (chain f g) =
    let below = HappensBefore-before g in
    chain (HappensBefore-agree n run run' a (omega arith) f) (HappensBefore-agree n run run' a lt g)
