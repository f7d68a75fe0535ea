-- A machine whose independent neighbours may be exchanged, and its runs in another order.
use Rattle.std.specs.Prelude.{◌≡◌, ◌≢◌, ℕ, ◌<◌, ◌≤◌, List, [], ◌∷◌, length, Bool, false, IsTrue, not, ◌&&◌, ◌==◌, ◌||◌}
use Rattle.std.specs.Prelude.{◌⊎◌}
use Rattle.std.specs.List.{list_any}
use Rattle.mr_base.specs.Accesses.{some_race}
use Rattle.mr_event.specs.Footprint.{Footprint}
use Rattle.mr_event.specs.Footprints.{depends, wakes}
use Rattle.mr_event.specs.Predicted.{happens_before, race_pair}
use Rattle.mr_event.specs.Order.{places, step_at, thread_at, HappensBefore, RacePair}

-- neither of two steps, f directly before g, reads or changes what the other changes
pub record AreIndependent (f g : Footprint) : Type 0 where
  pub apart : f.thread ≢ g.thread
  pub asleep : wakes f g.thread ≡ false
  pub free : depends f g ≡ false

-- The recorded steps as moves between states. `Step s i t` says that the entry of the recorded step i, taken in s,
-- completes with the footprint of that step and gives t. States that are `Same` have the same future.
pub record Machine (run : List Footprint) : Type 1 where
  pub State : Type 0
  pub Same : State → State → Type 0
  pub Step : State → ℕ → State → Type 0
  pub same_refl : (s : State) → Same s s
  pub same_sym : (s t : State) → Same s t → Same t s
  pub same_trans : (s t u : State) → Same s t → Same t u → Same s u
  -- a step goes the same way from a state that is the same
  pub carry : (s s' t : State) (i : ℕ) → Same s s' → Step s i t → (t' : State) × Step s' i t' × Same t t'
  -- independent neighbours may be exchanged
  pub swap :
      (s u t : State) (i j : ℕ) → AreIndependent (step_at run i) (step_at run j) → Step s i u → Step u j t
      → (u' : State) × (t' : State) × Step s j u' × Step u' i t' × Same t t'

-- the steps at these places, taken in this order from s, lead to t
abbrev pub Runs : {run : List Footprint} (m : Machine run) → m.State → List ℕ → m.State → Type 0
Runs m s [] t = m.Same s t
Runs m s (i ∷ o) t = (u : m.State) × m.Step s i u × Runs m u o t

-- (i, j) is the race pair with the least second step, and has the greatest first step for it
pub record IsFirstPair (run : List Footprint) (i j : ℕ) : Type 0 where
  pub pair : RacePair run i j
  pub within : j < length run
  pub earliest : (a b : ℕ) → b < j → ¬ RacePair run a b
  pub greatest : (a : ℕ) → i < a → ¬ RacePair run a j

-- a choice among the steps up to j that can be run without the others, and with i and j at its end
pub record Selects (run : List Footprint) (i j : ℕ) (keep : ℕ → Bool) : Type 0 where
  pub first : IsTrue (keep i)
  pub second : IsTrue (keep j)
  -- with a step it keeps each step that happens before it
  pub closed : (a b : ℕ) → b ≤ j → IsTrue (keep b) → HappensBefore run a b → IsTrue (keep a)
  -- nothing kept before j comes after i
  pub movable : (k : ℕ) → k < j → IsTrue (keep k) → ¬ HappensBefore run i k
  -- each partner of j is kept
  pub rivals : (a : ℕ) → RacePair run a j → IsTrue (keep a)

-- what the machine's race check reports of step j directly behind step i
pub record IsReported (run : List Footprint) (i j : ℕ) : Type 0 where
  pub apart : thread_at run i ≢ thread_at run j
  pub race : IsTrue (some_race (step_at run i).accesses (step_at run j).accesses)
  pub asleep : wakes (step_at run i) (thread_at run j) ≡ false

-- the steps of a shorter witness for (i, j): those that happen before i or j, the partners of j, and what happens
-- before a partner other than i
abbrev pub short_keeps : List Footprint → ℕ → ℕ → ℕ → Bool
short_keeps run i j k =
    (k == i)
    || (k == j)
    || happens_before run k i
    || happens_before run k j
    || race_pair run k j
    || list_any (λ m. race_pair run m j && not (m == i) && happens_before run k m) (places j)

-- k is a member of the list
abbrev pub IsAmong : ℕ → List ℕ → Type 0
IsAmong k [] = ⊥
IsAmong k (x ∷ xs) = (k ≡ x) ⊎ IsAmong k xs

-- step k may be placed next: it is not placed yet, and all that happens before it is
pub record IsReady (run : List Footprint) (placed : List ℕ) (k : ℕ) : Type 0 where
  pub within : k < length run
  pub unplaced : ¬ IsAmong k placed
  pub ready : (a : ℕ) → HappensBefore run a k → IsAmong a placed

-- each step is ready when it is placed
abbrev pub IsPlacing : List Footprint → List ℕ → List ℕ → Type 0
IsPlacing run placed [] = Unit {0}
IsPlacing run placed (x ∷ o) = IsReady run placed x × IsPlacing run (x ∷ placed) o
