-- The run of a program under a schedule, its legal schedules, and the first rule that a schedule breaks.
use Rattle.std.specs.Prelude.{◌≡◌, ℕ, ◌+◌, List, [], ◌∷◌, Option, None, Some}
use Rattle.mr_ast.specs.declared.program.Program.{Program}
use Rattle.mr_sched.specs.declared.schedule.Entry.{Entry}
use Rattle.mr_sched.specs.declared.schedule.Schedule.{Schedule}
use Rattle.mr_frame.specs.EventFootprint.{Footprint}
use Rattle.mr_frame.specs.PlanLegal.{Fault}
use Rattle.mr_frame.specs.PlanRuns.{AreLegal, Config, NeverIllFormed, after, entry_fault, feet, machine_step}
use Rattle.mr_frame.specs.Frames.{Look}
use Rattle.mr_start.specs.Steps.{Own, thread_step}
use Rattle.mr_start.specs.Start.{look_of, start_config, start_fault}

-- one step of a program's machine
abbrev pub program_step : Look → Config Own → Entry → Config Own
program_step look = machine_step (thread_step look)

-- the rule that an entry breaks, if it breaks one
abbrev pub program_fault : Look → Config Own → Entry → Option Fault
program_fault look = entry_fault (thread_step look)

-- THE RUN of a program under a schedule: where its machine stands in the end
unfoldable pub run_of : Program → Schedule → Config Own
run_of p w = after (thread_step (look_of p w.start)) (start_config p w.start) w.entries

-- THE FOOTPRINTS of its completed steps, in order
unfoldable pub steps_of : Program → Schedule → List Footprint
steps_of p w = feet (thread_step (look_of p w.start)) (start_config p w.start) w.entries

-- neither the start line nor an entry breaks a rule
pub record Legal (p : Program) (w : Schedule) : Type 0 where
  pub start : start_fault p w.start ≡ None
  pub entries : AreLegal (thread_step (look_of p w.start)) (start_config p w.start) w.entries

-- no step of the run is without a rule
abbrev pub IsSoundRun : Program → Schedule → Type 0
IsSoundRun p w = NeverIllFormed (thread_step (look_of p w.start)) (start_config p w.start) w.entries

-- a fault with the line of the schedule's text on which it stands
pub record PlacedFault : Type 0 where
  pub line : ℕ
  pub fault : Fault

-- the fault of this line, where it has one, and else a later one
abbrev pub at_line : ℕ → Option Fault → Option PlacedFault → Option PlacedFault
at_line line None later = later
at_line line (Some f) later = Some (record { line = line; fault = f })

-- the first rule that entries break, of which the first stands on this line
abbrev pub entries_fault : Look → Config Own → ℕ → List Entry → Option PlacedFault
entries_fault look c line [] = None
entries_fault look c line (e ∷ es) =
    at_line line (program_fault look c e) (entries_fault look (program_step look c e) (line + 1) es)

-- the first rule that a schedule breaks: the start line is line 2, and entry k stands on line k + 2
unfoldable pub schedule_fault : Program → Schedule → Option PlacedFault
schedule_fault p w =
    at_line 2 (start_fault p w.start) (entries_fault (look_of p w.start) (start_config p w.start) 3 w.entries)
