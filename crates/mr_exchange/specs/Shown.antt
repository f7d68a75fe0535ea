-- What a choice of steps shows to a machine: it runs alone, and ends with the two racing steps side by side. And the
-- two statements on every machine, which proofs/ proves.
use Rattle.std.specs.Prelude.{◌≡◌, ℕ, suc, List, [], ◌∷◌, ◌++◌, length, Bool, ◌==◌}
use Rattle.std.specs.List.{filter}
use Rattle.mr_event.specs.Footprint.{Footprint}
use Rattle.mr_event.specs.Kept.{selected}
use Rattle.mr_event.specs.Order.{places, thread_at, HasNoRace, IsRearrangement}
use Rattle.mr_exchange.specs.Trace.{Machine, Runs, IsReported, IsFirstPair, Selects}

-- R holds of x and the first element
abbrev pub NextIs : {X : Type 0} → (X → X → Type 0) → X → List X → Type 0
NextIs R x [] = Unit {0}
NextIs R x (y ∷ ys) = R x y

-- R holds of each element and the next
abbrev pub AreAdjacent : {X : Type 0} → (X → X → Type 0) → List X → Type 0
AreAdjacent R [] = Unit {0}
AreAdjacent R (x ∷ xs) = NextIs R x xs × AreAdjacent R xs

-- the steps of a thread in an order
abbrev pub steps_of : List Footprint → ℕ → List ℕ → List ℕ
steps_of run t o = filter (λ k. thread_at run k == t) o

-- The steps o show the pair (i, j) to a machine in state s: they end with i and j, they run, no step of them but the
-- last is reported behind its neighbour, the last one is, and the steps of each thread in o are a prefix of its
-- recorded ones.
pub record IsShown (run : List Footprint) (m : Machine run) (s : m.State) (i j : ℕ) (o : List ℕ) : Type 0 where
  pub front : List ℕ
  pub ends : o ≡ front ++ i ∷ j ∷ []
  pub goal_state : m.State
  pub runs : Runs m s o goal_state
  pub calm : AreAdjacent (λ x y. ¬ IsReported run x y) (front ++ i ∷ [])
  pub reported : IsReported run i j
  pub prefix : (t : ℕ) → (rest : List ℕ) × (steps_of run t o ++ rest ≡ steps_of run t (places (length run)))

-- to a machine that took the recorded steps up to the second of the first pair, every choice shows that pair
abbrev pub EveryChoiceShows : Type 1
EveryChoiceShows =
    (run : List Footprint) (i j : ℕ) (keep : ℕ → Bool) → IsFirstPair run i j → Selects run i j keep
    → (m : Machine run) (s t : m.State) → Runs m s (places (suc j)) t → IsShown run m s i j (selected keep i j)

-- a machine that took the recorded steps of a run without a race pair takes every rearrangement of them, to the same
-- end
abbrev pub EveryOrderRuns : Type 1
EveryOrderRuns =
    (run : List Footprint) (o : List ℕ) → IsRearrangement run o → HasNoRace run
    → (m : Machine run) (s t : m.State) → Runs m s (places (length run)) t → Runs m s o t
