-- Whether a run ends with an entry that itself stops.
use Rattle.std.specs.Prelude.{◌≡◌, ℕ, Bool, true, false, List, [], ◌∷◌, Option, None, Some}
use Rattle.mr_ast.specs.declared.program.Program.{Program}
use Rattle.mr_sched.specs.declared.schedule.Entry.{Entry}
use Rattle.mr_sched.specs.declared.schedule.Schedule.{Schedule}
use Rattle.mr_exchange.specs.PlanMachine.{Bare, Completed, IllFormedStep, Language, State, Stops, bare}
use Rattle.mr_exchange.specs.PlanRuns.{Config, machine_step}
use Rattle.mr_start.specs.Steps.{thread_step}
use Rattle.mr_start.specs.Start.{look_of, start_config}

-- a bare step stops: by exit, abort or undefined behaviour
abbrev pub is_stop : {L : Type 0} → Bare L → Bool
is_stop (Completed n s) = false
is_stop (Stops v about) = true
is_stop IllFormedStep = false

-- the step of an entry itself stops, in a state
abbrev pub stops_in : {L : Type 0} → Language L → Entry → Option (State L) → Bool
stops_in step e None = false
stops_in step e (Some s) = is_stop (bare step s e.thread e.picks)

-- the last of these entries itself stops, where it comes
abbrev pub StopsAtLast : {L : Type 0} → Language L → Config L → List Entry → Type 0
StopsAtLast step c [] = ⊥
StopsAtLast step c (e ∷ []) = stops_in step e c.state ≡ true
StopsAtLast step c (e ∷ f ∷ es) = StopsAtLast step (machine_step step c e) (f ∷ es)

-- THE LAST ENTRY of a schedule ITSELF STOPS
abbrev pub LastStops : Program → Schedule → Type 0
LastStops p w = StopsAtLast (thread_step (look_of p w.start)) (start_config p w.start) w.entries
