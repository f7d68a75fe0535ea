-- A run in another order, computed: a thread that is spawned ends, and its creator goes on; drawn from 0 the creator goes
-- on first.
use Rattle.mr_witness.proofs.Common.{◌≡◌, ℕ, List, [], ◌∷◌, refl, some_race, Footprint, depends, wakes, no_step, happens_before, Entry, ready_threads, shuffled, shuffled_order}
use Rattle.mr_base.specs.Accesses.{some_conflict}
use Rattle.mr_base.specs.declared.thread.Event.TheVariants.{Quiet}
use Rattle.mr_event.proofs.Examples.{ending, spawning, step}

abbrev pub ended_first : List Footprint
ended_first = spawning 1 [] ∷ ending 1 ∷ step 0 [] Quiet ∷ []

-- at first the creator alone is ready; behind its spawn both threads are
one_ready : ready_threads ended_first (0 ∷ 1 ∷ 2 ∷ []) ≡ 0 ∷ []
unfolding happens_before depends wakes no_step some_race some_conflict
one_ready = refl

both_ready : ready_threads ended_first (1 ∷ 2 ∷ []) ≡ 0 ∷ 1 ∷ []
unfolding happens_before depends wakes no_step some_race some_conflict
both_ready = refl

creator_first : shuffled_order ended_first 0 ≡ 0 ∷ 2 ∷ 1 ∷ []
unfolding shuffled_order happens_before depends wakes no_step some_race some_conflict
creator_first = refl

-- the entry of thread 0 that itself stopped stays the last one
abbrev entry : ℕ → List ℕ → Entry
entry t picks = record { thread = t; picks = picks }

stop_last : shuffled ended_first (record { start = 16 ∷ []; entries = entry 0 (33 ∷ 8208 ∷ []) ∷ entry 1 [] ∷ entry 0 [] ∷ entry 0 [] ∷ [] }) 0
    ≡ record { start = 16 ∷ []; entries = entry 0 (33 ∷ 8208 ∷ []) ∷ entry 0 [] ∷ entry 1 [] ∷ entry 0 [] ∷ [] }
unfolding shuffled_order happens_before depends wakes no_step some_race some_conflict
stop_last = refl
