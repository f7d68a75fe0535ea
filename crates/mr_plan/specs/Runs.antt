-- Machine steps, runs and verdicts, over any language of steps.
use Rattle.std.specs.Prelude.{◌≡◌, ℕ, ◌+◌, Bool, true, false, not, ◌&&◌, ◌==◌, List, [], ◌∷◌, ◌++◌, map, Option, None}
use Rattle.std.specs.Prelude.{Some, if◌then◌else◌}
use Rattle.mr_base.specs.Accesses.{some_race}
use Rattle.mr_base.specs.declared.reason.Reason.TheVariants.{DataRace}
use Rattle.mr_base.specs.declared.reached.Reached.{Reached}
use Rattle.mr_base.specs.declared.reason.Verdict.{Verdict}
use Rattle.mr_base.specs.declared.reason.Verdict.TheVariants as verdict
use Rattle.mr_event.specs.Footprint.{Footprint}
use Rattle.mr_event.specs.Footprints.{wakes}
use Rattle.mr_sync.specs.Tables.{is_any_enabled}
use Rattle.mr_sched.specs.declared.schedule.Entry.{Entry}
use Rattle.mr_plan.specs.Notes.{Notes, foot_of}
use Rattle.mr_plan.specs.Queries.{tables_of}
use Rattle.mr_plan.specs.Machine.{State, Language, Bare, Completed, Stops, IllFormedStep, bare}
use Rattle.mr_plan.specs.Legal.{Fault, fault, state_fault}
use Rattle.mr_sched.specs.declared.rule.ScheduleRule.TheVariants as rule

-- a print, with the thread that made it
pub record Printed : Type 0 where
  pub thread : ℕ
  pub text : List ℕ

-- Where a machine stands: its state, gone once a step itself stopped; prints; last footprint; completed steps; verdict;
-- and the bytes that a step speaks of which is undefined.
pub record Config (L : Type 0) : Type 0 where
  pub state : Option (State L)
  pub output : List Printed
  pub last : Option Footprint
  pub completed : ℕ
  pub verdict : Verdict
  pub about : Option Reached

-- a text that a thread printed
abbrev pub printed_by : ℕ → List ℕ → Printed
printed_by t text = record { thread = t; text = text }

-- The race check: an access races with one of the step right before, which is of another thread and did not wake it.
abbrev pub races_with : Footprint → Option Footprint → Bool
races_with f None = false
races_with f (Some last) =
    not (last.thread == f.thread) && (not (wakes last f.thread) && some_race last.accesses f.accesses)

-- the verdict behind a completed step
abbrev pub verdict_after : {L : Type 0} → Option Footprint → Footprint → State L → Verdict
verdict_after last f s =
    if races_with f last then verdict.Undefined DataRace
    else (if is_any_enabled (tables_of s.shared) then verdict.Running else verdict.Deadlock)

-- the footprint of a completed step that led to a state
abbrev pub foot_in : {L : Type 0} → Language L → Notes → State L → Footprint
foot_in step n s = foot_of step.edition s.shared.memory n

-- where the machine stands behind a step that completed, that stopped the run, or that has no rule
abbrev pub after_bare : {L : Type 0} → Language L → Config L → Bare L → Config L
after_bare step c (Completed n s) = record {
  state = Some s;
  output = c.output ++ map (printed_by n.tally.thread) n.printed;
  last = Some (foot_in step n s);
  completed = c.completed + 1;
  verdict = verdict_after c.last (foot_in step n s) s;
  about = c.about;
}
after_bare step c (Stops v about) = record c { state = None; verdict = v; about = about }
after_bare step c IllFormedStep = record c { state = None }

-- the same behind the step of an entry, from a state; without a state nothing changes
abbrev pub stepped_from : {L : Type 0} → Language L → Config L → ℕ → List ℕ → Option (State L) → Config L
stepped_from step c t picks None = c
stepped_from step c t picks (Some s) = after_bare step c (bare step s t picks)

-- ONE MACHINE STEP: the bare step, then the race check, then whether a thread is enabled
unfoldable pub machine_step : {L : Type 0} → Language L → Config L → Entry → Config L
machine_step step c e = stepped_from step c e.thread e.picks c.state

-- the run goes on
abbrev pub is_running : Verdict → Bool
is_running verdict.Running = true
is_running _ = false

-- the first rule that an entry breaks at a state; without a state the run has stopped, and no entry is legal
abbrev pub fault_in : {L : Type 0} → Language L → ℕ → List ℕ → Option (State L) → Option Fault
fault_in step t picks None = fault rule.AfterStop
fault_in step t picks (Some s) = state_fault step s t picks

-- THE FIRST RULE THAT AN ENTRY BREAKS, if it breaks one: 66 AfterStop, and then those of the state
unfoldable pub entry_fault : {L : Type 0} → Language L → Config L → Entry → Option Fault
entry_fault step c e = if is_running c.verdict then fault_in step e.thread e.picks c.state else fault rule.AfterStop

-- where the machine stands after these entries
abbrev pub after : {L : Type 0} → Language L → Config L → List Entry → Config L
after step c [] = c
after step c (e ∷ es) = after step (machine_step step c e) es

-- each entry breaks no rule where it comes
abbrev pub AreLegal : {L : Type 0} → Language L → Config L → List Entry → Type 0
AreLegal step c [] = Unit {0}
AreLegal step c (e ∷ es) = (entry_fault step c e ≡ None) × AreLegal step (machine_step step c e) es

-- the step has no rule
abbrev pub is_ill_formed : {L : Type 0} → Bare L → Bool
is_ill_formed IllFormedStep = true
is_ill_formed _ = false

-- the step of an entry has a rule
abbrev pub has_rule : {L : Type 0} → Language L → ℕ → List ℕ → Option (State L) → Bool
has_rule step t picks None = true
has_rule step t picks (Some s) = not (is_ill_formed (bare step s t picks))

-- no bare step of the run is ill-formed
abbrev pub NeverIllFormed : {L : Type 0} → Language L → Config L → List Entry → Type 0
NeverIllFormed step c [] = Unit {0}
NeverIllFormed step c (e ∷ es) =
    (has_rule step e.thread e.picks c.state ≡ true) × NeverIllFormed step (machine_step step c e) es

-- ---- the steps of a run

-- the footprint of the step of an entry, where it completes
abbrev pub foot_of_bare : {L : Type 0} → Language L → Bare L → List Footprint
foot_of_bare step (Completed n s) = foot_in step n s ∷ []
foot_of_bare step _ = []

-- the footprint of the step of an entry, where it completes
abbrev pub foot_from : {L : Type 0} → Language L → ℕ → List ℕ → Option (State L) → List Footprint
foot_from step t picks None = []
foot_from step t picks (Some s) = foot_of_bare step (bare step s t picks)

-- THE FOOTPRINTS of the completed steps of some entries, in order
abbrev pub feet : {L : Type 0} → Language L → Config L → List Entry → List Footprint
feet step c [] = []
feet step c (e ∷ es) = foot_from step e.thread e.picks c.state ++ feet step (machine_step step c e) es
