-- No step itself stops with a data race.
use Rattle.mr_witness.proofs.Common.{◌≡◌, ◌≢◌, ℕ, refl, sym, subst, List, Bool, true, false, Option, Some, None, if◌then◌else◌, slice_get, Reason, DataRace, Verdict, Broken, Outcome, Refused, Went, run, ◌>>=◌, Shared, answer}
use Rattle.mr_base.specs.declared.reached.Reached.{Reached}
use Rattle.mr_eval.specs.MemMemory.{leaks}
use Rattle.mr_exchange.specs.PlanMachine.{Aborts, Bare, Completed, Exits, Flow, Goes, IllFormedStep, State, Stops, Thread, acted, bare, settle, settled}
use Rattle.mr_exchange.specs.PlanNotes.{Notes, start_notes}
use Rattle.mr_exchange.specs.StartFrameFrames.{Look}
use Rattle.mr_exchange.specs.StartSteps.{Own, own_step, thread_step}
use Rattle.mr_base.specs.declared.reason.Verdict.TheVariants as verdict
use Rattle.mr_witness.proofs.Calm.{Anything, CalmOutcome, IsCalm, calm_is_other, run_calm}
use Rattle.mr_witness.proofs.Queries.{answer_calm}
use Rattle.mr_witness.proofs.Steps.{whole_steps}

abbrev CalmVerdict : Verdict → Type 0
CalmVerdict (verdict.Undefined r) = IsCalm r
CalmVerdict _ = Unit {0}

abbrev CalmBare : Bare Own → Type 0
CalmBare (Completed n s) = Unit {0}
CalmBare (Stops v about) = CalmVerdict v
CalmBare IllFormedStep = Unit {0}

exit_calm : (s : Shared) → CalmVerdict (if leaks s.memory then verdict.Leak else verdict.Exit)
exit_calm s = by (leaks s.memory)
  where
    by : (b : Bool) → CalmVerdict (if b then verdict.Leak else verdict.Exit)
    by true = tt
    by false = tt

settle_calm : (s : State Own) (t : ℕ) (f : Flow Own) (w : Shared × Notes) → CalmBare (settle s t f w)
settle_calm s t (Goes own started) w = tt
settle_calm s t Exits w = exit_calm w.0
settle_calm s t Aborts w = tt

settled_calm : (s : State Own) (t : ℕ) (o : Outcome (Flow Own) (Shared × Notes)) → CalmOutcome o → CalmBare (settled s t o)
settled_calm s t (Went f w) h = settle_calm s t f w
settled_calm s t (Refused r) h = h
settled_calm s t Broken h = tt

bare_calm : (look : Look) (s : State Own) (t : ℕ) (picks : List ℕ) → CalmBare (bare (thread_step look) s t picks)
bare_calm look s t picks = by (slice_get s.threads t)
  where
    by : (o : Option (Thread Own)) → CalmBare (acted (thread_step look) s t picks o)
    by None = tt
    by (Some th) =
        settled_calm s t (run answer (own_step look th.own >>= λ plan. plan.go picks) (s.shared, start_notes t th.count))
        (run_calm answer answer_calm Anything (own_step look th.own >>= λ plan. plan.go picks) (s.shared, start_notes t th.count) (whole_steps look th.own picks))

-- NO STEP ITSELF STOPS WITH A DATA RACE
pub never_raced : (look : Look) (s : State Own) (t : ℕ) (picks : List ℕ) (about : Option Reached) → bare (thread_step look) s t picks ≢ Stops (verdict.Undefined DataRace) about
never_raced look s t picks about e = calm_is_other DataRace (subst CalmBare e (bare_calm look s t picks)) refl
