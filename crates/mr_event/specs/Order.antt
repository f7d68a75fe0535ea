-- What happens before what in a run, the races that it shows, and its rearrangements. (Lamport: happens-before.) A run
-- is the list of the footprints of its completed steps; a step is named by its place in the run, counted from 0.
use Rattle.std.specs.Prelude.{◌≡◌, ◌≢◌, ℕ, ◌<◌, List, [], length, Bool, false, IsTrue, slice_index_or, All, Any}
use Rattle.std.specs.Prelude.{AllPairs, IsPermutation}
use Rattle.std.specs.List.{range_with_len}
use Rattle.mr_base.specs.Accesses.{some_race}
use Rattle.mr_base.specs.declared.thread.Event.TheVariants.{Quiet}
use Rattle.mr_event.specs.Footprint.{Footprint}
use Rattle.mr_event.specs.declared.footprint.Pair.{Pair}
use Rattle.mr_event.specs.Footprints.{depends, wakes}

-- what stands past the end of a run
unfoldable pub no_step : Footprint
no_step =
    record {
      thread = 0;
      accesses = [];
      allocated = [];
      freed = [];
      touched = [];
      event = Quiet;
      ended = false;
      woken = [];
    }

-- the step at a place
abbrev pub step_at : List Footprint → ℕ → Footprint
step_at run i = slice_index_or run i no_step

-- the thread of the step at a place
abbrev pub thread_at : List Footprint → ℕ → ℕ
thread_at run i = (step_at run i).thread

-- synchronised steps: i woke or created the thread of step j, and j is that thread's first step after i
pub record Sync (run : List Footprint) (i j : ℕ) : Type 0 where
  pub before : i < j
  pub woken : IsTrue (wakes (step_at run i) (thread_at run j))
  pub first : (k : ℕ) → i < k → k < j → thread_at run k ≢ thread_at run j

-- racing steps: of different threads, with an access of step i and one of step j that race, and not synchronised
pub record Races (run : List Footprint) (i j : ℕ) : Type 0 where
  pub apart : thread_at run i ≢ thread_at run j
  pub race : IsTrue (some_race (step_at run i).accesses (step_at run j).accesses)
  pub unsynced : ¬ Sync run i j

-- An edge from step i to a later step j: of one thread, or synchronised, or j depends on i and they do not race.
pub data Edge (run : List Footprint) (i j : ℕ) : Type 0 where
  in_thread : i < j → thread_at run i ≡ thread_at run j → Edge run i j
  woken : Sync run i j → Edge run i j
  dependent : i < j → IsTrue (depends (step_at run i) (step_at run j)) → ¬ Races run i j → Edge run i j

-- happens-before: the least transitive relation that contains the edges
pub data HappensBefore (run : List Footprint) : ℕ → ℕ → Type 0 where
  edge : {i j : ℕ} → Edge run i j → HappensBefore run i j
  chain : {i j k : ℕ} → HappensBefore run i j → HappensBefore run j k → HappensBefore run i k

-- a race pair: step i and a later step j race, and i does not happen before j; i is then a partner of j
pub record RacePair (run : List Footprint) (i j : ℕ) : Type 0 where
  pub before : i < j
  pub races : Races run i j
  pub unordered : ¬ HappensBefore run i j

-- no step of the run has a partner
abbrev pub HasNoRace : List Footprint → Type 0
HasNoRace run = (i j : ℕ) → j < length run → ¬ RacePair run i j

-- i is the greatest partner of j
pub record IsGreatestPartner (run : List Footprint) (i j : ℕ) : Type 0 where
  pub pair : RacePair run i j
  pub greatest : (k : ℕ) → i < k → ¬ RacePair run k j

-- j has no partner
abbrev pub HasNoPartner : List Footprint → ℕ → Type 0
HasNoPartner run j = (i : ℕ) → ¬ RacePair run i j

-- the pairs of the steps below n that have a partner, each with its greatest one, by rising second step
pub record IsPredictedBelow (run : List Footprint) (n : ℕ) (pairs : List Pair) : Type 0 where
  pub within : All (λ p. p.second < n) pairs
  pub listed : All (λ p. IsGreatestPartner run p.first p.second) pairs
  pub rising : AllPairs (λ p q. p.second < q.second) pairs
  pub complete : (i j : ℕ) → j < n → RacePair run i j → Any (λ p. p.second ≡ j) pairs

-- the predicted races of a run: each step that has a partner, with its greatest one, by rising second step
abbrev pub IsPredicted : List Footprint → List Pair → Type 0
IsPredicted run pairs = IsPredictedBelow run (length run) pairs

-- the steps are of two threads, and some of their accesses race
abbrev pub AreRivals : List Footprint → ℕ → ℕ → Type 0
AreRivals run i j =
    (thread_at run i ≢ thread_at run j) × IsTrue (some_race (step_at run i).accesses (step_at run j).accesses)

-- no step below i is a rival of j
abbrev pub HasNoRivalBelow : List Footprint → ℕ → ℕ → Type 0
HasNoRivalBelow run i j = (k : ℕ) → k < i → ¬ AreRivals run k j

-- an edge to k comes from a step that is marked
abbrev pub HasLink : List Footprint → List Bool → ℕ → Type 0
HasLink run marked k = (m : ℕ) × (m < k) × IsTrue (slice_index_or marked m false) × Edge run m k

-- the places of a run of n steps, in order
abbrev pub places : ℕ → List ℕ
places n = range_with_len 0 n

-- a rearrangement of a run: every step once, and no step before one that happens before it
pub record IsRearrangement (run : List Footprint) (o : List ℕ) : Type 0 where
  pub permutes : IsPermutation (places (length run)) o
  pub keeps : AllPairs (λ a b. ¬ HappensBefore run b a) o
