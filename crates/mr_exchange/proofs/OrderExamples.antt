-- The two witnesses of a race of two threads with a third step, and a run in another order, computed.
use Rattle.mr_exchange.proofs.Common.{◌≡◌, ℕ, suc, zero, List, [], ◌∷◌, false, refl, inl, inr, arith, both_ways, some_conflict, some_race, Quiet, Footprint, depends, wakes, no_step, HappensBefore, HappensBefore-before, IsAmong, IsPlacing, short_keeps}
use Rattle.mr_event.specs.Kept.{kept, selected}
use Rattle.mr_event.specs.Predicted.{happens_before, race_pair}
use Rattle.mr_event.proofs.Examples.{ending, halves, spawning, step}
use Rattle.mr_event.proofs.Tests.{happens_before_is}
use Rattle.mr_exchange.specs.Shown.{steps_of}
use Rattle.mr_exchange.specs.Trace.{IsReady}

-- the end of the first thread is left out too, and its store is kept, since it is a partner of the load
short_witness : selected (short_keeps halves 6 8) 6 8 ≡ 0 ∷ 1 ∷ 2 ∷ 3 ∷ 4 ∷ 6 ∷ 8 ∷ []
unfolding race_pair happens_before depends wakes no_step some_race some_conflict
short_witness = refl

-- the steps of each thread in a witness are the first ones that it recorded
first_steps : steps_of halves 0 (kept halves 6 8) ≡ 0 ∷ 1 ∷ 2 ∷ 3 ∷ 8 ∷ []
unfolding happens_before depends wakes no_step some_race some_conflict
first_steps = refl

-- a thread that is spawned ends, and then its creator goes on; the creator may as well go on first
abbrev ended_first : List Footprint
ended_first = spawning 1 [] ∷ ending 1 ∷ step 0 [] Quiet ∷ []

unordered : happens_before ended_first 1 2 ≡ false
unfolding happens_before depends wakes no_step some_race some_conflict
unordered = refl

behind_the_spawn : (a : ℕ) → HappensBefore ended_first a 2 → IsAmong a (0 ∷ [])
behind_the_spawn zero h = inl refl
behind_the_spawn (suc zero) h = absurd (both_ways _ unordered ((happens_before_is ended_first 1 2).1 h))
behind_the_spawn (suc (suc a)) h = absurd (let lt = HappensBefore-before h in omega arith)

at_last : (a : ℕ) → HappensBefore ended_first a 1 → IsAmong a (2 ∷ 0 ∷ [])
at_last zero h = inr (inl refl)
at_last (suc a) h = absurd (let lt = HappensBefore-before h in omega arith)

spawn_first : IsReady ended_first [] 0
spawn_first = record { within = omega arith; unplaced = λ n. n; ready = λ a h. absurd (let lt = HappensBefore-before h in omega arith) }

creator_next : IsReady ended_first (0 ∷ []) 2
creator_next = record { within = omega arith; unplaced = λ n. elim n [ inl e ↦ omega (arith, e) | inr m ↦ m ]; ready = behind_the_spawn }

end_last : IsReady ended_first (2 ∷ 0 ∷ []) 1
end_last =
    record {
      within = omega arith;
      unplaced = λ n. elim n [ inl e ↦ omega (arith, e) | inr m ↦ elim m [ inl e ↦ omega (arith, e) | inr k ↦ k ] ];
      ready = at_last;
    }

creator_first : IsPlacing ended_first [] (0 ∷ 2 ∷ 1 ∷ [])
creator_first = (spawn_first, (creator_next, (end_last, tt)))
