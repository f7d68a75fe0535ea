-- A bare step of a legal entry from a state that keeps what each state keeps has a rule, and leaves one that keeps it.
use Rattle.mr_start.proofs.Common.{◌≡◌, ℕ, ◌<◌, refl, subst, sym, ap, ◌∙◌, arith, List, length, Option, Some, None, same_Some, slice_get_within, slice_get, Program, Status, Enabled, Ended, OnJoin, OnLock, Outcome, Went, Broken, on, run, start_tally, needs_fault, state_fault, Aborts, Bare, Completed, Exits, Goes, IllFormedStep, Plan, State, Stops, Thread, bare, Notes, start_notes, Shared, StepScript, answer, AreHeld, Slot, frame_slots, no_faults, MemoryFacts, After, FitsStack, IsLook, Look, DueDo, next_do, SoundState, Own, Turn, thread_step, item_there}
use Rattle.mr_frame.specs.TypingWalk.{WellFormed}
use Rattle.mr_base.specs.Script.{Refused}
use Rattle.mr_base.proofs.ScriptRuns.{run_bind}
use Rattle.mr_frame.specs.PlanLegal.{count_of, status_fault}
use Rattle.mr_frame.specs.PlanMachine.{acted, needs, needed, needs_of, settled}
use Rattle.mr_frame.proofs.PlanMemoryFacts.{start_facts}
use Rattle.mr_frame.proofs.DoSafe.{do_stands}
use Rattle.mr_start.specs.Steps.{own_step, step_due}
use Rattle.mr_start.proofs.DoTurn.{do_turn}
use Rattle.mr_start.proofs.FrameTurn.{PlanTurns, frame_turn}
use Rattle.mr_start.proofs.Settled.{settled_sound}
use Rattle.mr_start.proofs.ThreadRooms.{in_front_of_others, other_slots}
use Rattle.mr_start.proofs.Turns.{AfterTurn}

-- what a bare step comes to: a state that keeps it all, or a verdict
abbrev pub SoundBare : Program → Bare Own → Type 0
SoundBare p (Completed n s) = SoundState p s
SoundBare p (Stops v about) = Unit {0}
SoundBare p IllFormedStep = ⊥

-- a thread that is enabled
enabled_there : (o : Option Status) → status_fault o ≡ None → o ≡ Some Enabled
enabled_there None h = absurd (cc)
enabled_there (Some Enabled) h = refl
enabled_there (Some (OnJoin u)) h = absurd (cc)
enabled_there (Some (OnLock l)) h = absurd (cc)
enabled_there (Some Ended) h = absurd (cc)

module _ (look : Look) (is : IsLook look) (well : WellFormed look.program) (s : State Own) (sound : SoundState look.program s) (t : ℕ) (picks : List ℕ) where
  abbrev p : Program
  p = look.program

  module _ (enabled : slice_get s.shared.statuses t ≡ Some Enabled) (th : Thread Own) (here : slice_get s.threads t ≡ Some th) where
    abbrev others : List Slot
    others = other_slots p s.threads t

    fits : FitsStack p th.own.stack
    fits = sound.fits t Enabled th enabled here

    facts : MemoryFacts s.shared.memory t th.count s.shared.memory (start_tally t th.count)
    facts = start_facts s.shared.memory t th.count (λ id a e same.
        let c = sound.counted id a e in
        let at : c.thread ≡ th = same_Some c.thread th (sym c.is ∙ ap (slice_get s.threads) same ∙ here) in
        subst (λ (x : Thread Own). id.count < x.count) at c.below)

    front : AreHeld s.shared.memory (frame_slots p th.own.stack.frames others)
    front = in_front_of_others p s.threads t th here s.shared.memory sound.held

    -- the step of the thread plans its turn
    planned_turn : After (PlanTurns p s.shared t th.count others) (run answer (own_step look th.own) (s.shared, start_notes t th.count))
    unfolding own_step
    planned_turn = by_due (next_do look th.own.stack) refl
      where
        by_due : (o : Option DueDo) → next_do look th.own.stack ≡ o → After (PlanTurns p s.shared t th.count others) (run answer (step_due look th.own o) (s.shared, start_notes t th.count))
        by_due None e = frame_turn look is well s.shared t th.count th.own (sound.numbered t th here) sound.tables enabled others fits e facts front
        by_due (Some d) e = do_turn look is well s.shared t th.count th.own (sound.numbered t th here) sound.tables enabled others d (do_stands look is well th.own.stack d fits e) facts front

    -- how it ends
    ended : (o : Outcome Turn (Shared × Notes)) → After (AfterTurn p s.shared t th.count others) o → SoundBare p (settled s t o)
    ended (Went (Goes own started) w) h = settled_sound p s sound t th here own started w h
    ended (Went Exits w) h = tt
    ended (Went Aborts w) h = tt
    ended (Refused r) h = tt
    ended Broken h = h

    carried : (o : Outcome (Plan (StepScript Turn)) (Shared × Notes)) → After (PlanTurns p s.shared t th.count others) o → needs_fault s.shared t th.count (needs_of o) picks ≡ None
        → SoundBare p (settled s t (on o (λ plan w. run answer (plan.go picks) w)))
    carried (Went plan w) h legal = ended (run answer (plan.go picks) w) (h picks legal)
    carried (Refused r) h legal = tt
    carried Broken h legal = h

    acted_sound : needs_fault s.shared t th.count (needed (thread_step look) s t (Some th)) picks ≡ None → SoundBare p (acted (thread_step look) s t picks (Some th))
    acted_sound legal =
        subst (λ o. SoundBare p (settled s t o)) (sym (run_bind answer (own_step look th.own) (λ plan. plan.go picks) (s.shared, start_notes t th.count)))
        (carried (run answer (own_step look th.own) (s.shared, start_notes t th.count)) planned_turn legal)

  -- A BARE STEP of a legal entry
  pub bare_sound : state_fault (thread_step look) s t picks ≡ None → SoundBare p (bare (thread_step look) s t picks)
  bare_sound h =
      let parts = no_faults (status_fault (slice_get s.shared.statuses t)) (needs_fault s.shared t (count_of (slice_get s.threads t)) (needs (thread_step look) s t) picks) h in
      let enabled = enabled_there (slice_get s.shared.statuses t) parts.0 in
      let lt : t < length s.threads = (let k = slice_get_within s.shared.statuses t Enabled enabled in let m = sound.many in omega arith) in
      let th = item_there s.threads t lt in
      let legal : needs_fault s.shared t th.0.count (needed (thread_step look) s t (Some th.0)) picks ≡ None =
      (λ i. needs_fault s.shared t (count_of (sym th.1 i)) (needed (thread_step look) s t (sym th.1 i)) picks) ∙ parts.1 in
      subst (λ (o : Option (Thread Own)). SoundBare p (acted (thread_step look) s t picks o)) (sym th.1) (acted_sound enabled th.0 th.1 legal)
