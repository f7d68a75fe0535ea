-- Steps of which neither happens before the other.
use Rattle.mr_exchange.proofs.Common.{ℕ, ◌<◌, List, inl, inr, Footprint, depends, wakes, step_at, thread_at, HappensBefore, RacePair, in_thread, dependent, edge, woken_before, AreIndependent, cases_Bool}

-- an earlier step that neither happens before a later one nor races with it is independent of it
pub independent_steps : (run : List Footprint) (i j : ℕ) → i < j → (HappensBefore run i j → ⊥) → (RacePair run i j → ⊥) → AreIndependent (step_at run i) (step_at run j)
independent_steps run i j lt not_before no_pair =
    record {
      apart = λ e. not_before (edge (in_thread lt e));
      asleep = elim (cases_Bool (wakes (step_at run i) (thread_at run j))) [
        | inl e ↦ absurd (not_before (woken_before run i j lt e))
        | inr e ↦ e
      ];
      free = elim (cases_Bool (depends (step_at run i) (step_at run j))) [
        | inl e ↦ absurd (not_before (edge (dependent lt e (λ r. no_pair (record { before = lt; races = r; unordered = not_before })))))
        | inr e ↦ e
      ];
    }
