-- The steps of a run, as they are written.
use Rattle.std.specs.Prelude.{ℕ, ◌+◌, nat_lt, if◌then◌else◌, List, [], ◌++◌, flat_map}
use Rattle.std.specs.Prelude.{codes, decimal, length, slice_range, Option, None, Some, slice_get}
use Rattle.mr_event.specs.Footprint.{Footprint}
use Rattle.mr_report.specs.declared.report.Line.{Line}
use Rattle.mr_report.specs.Report.{brief_text}
use Rattle.mr_labels.specs.declared.step.ToldStep.{ToldStep}
use Rattle.mr_listing.specs.declared.held.StepValues.{StepValues}
use Rattle.mr_listing.specs.Accesses.{accesses_text}
use Rattle.mr_listing.specs.Events.{end_text, event_text, woken_line}
use Rattle.mr_listing.specs.Leaks.{leaks_text}
use Rattle.mr_listing.specs.Partners.{partner_line, partners_at}
use Rattle.mr_listing.specs.Rests.{rests_text}
use Rattle.mr_listing.specs.Seen.{Seen}
use Rattle.mr_listing.specs.Spots.{stand_text}

-- `NUMBER  thread T  LINE:COLUMN  FUNCTION BLOCK  STATEMENT`; steps are counted from 1
abbrev pub head_line : Seen → ToldStep → List ℕ
head_line s told =
    decimal (told.number + 1) ++ codes "  thread " ++ decimal told.thread ++ codes "  " ++ stand_text s told.before
    ++ codes "\n"

-- the prints of a step: those behind as many as there were before it
abbrev pub printed_by : List Line → ToldStep → List Line
printed_by lines told =
    if nat_lt told.prints_behind told.prints_before then []
    else (if nat_lt (length lines) told.prints_behind then []
    else slice_range lines told.prints_before told.prints_behind)

abbrev pub print_line : Line → List ℕ
print_line line = codes "        prints > " ++ line.text ++ codes "\n"

-- what a step did: to a lock or to another thread; whether its thread ended; whom it woke; and its accesses, which
-- have these values
abbrev pub foot_text : Seen → Option StepValues → ToldStep → Option Footprint → List ℕ
foot_text s v told None = []
foot_text s v told (Some foot) =
    event_text s.program told foot.event foot.woken ++ end_text foot.ended ++ flat_map woken_line foot.woken
    ++ accesses_text s told.before v foot.accesses

-- THE LINES OF A STEP: where its thread stood, its prints, what it did, and the steps with which it races. What the
-- accesses of a step hold stands at its number
abbrev pub step_text : Seen → List StepValues → ToldStep → List ℕ
step_text s values told =
    head_line s told ++ flat_map print_line (printed_by s.lines told)
    ++ foot_text s (slice_get values told.number) told (slice_get s.feet told.number)
    ++ flat_map partner_line (partners_at s.races told.number)

-- which step ended the run without completing, if one did
abbrev pub stop_text : ℕ → ℕ → List ℕ
stop_text steps completed =
    if nat_lt completed steps then codes "step " ++ decimal steps ++ codes " ended the run\n" else []

-- THE STEPS that are told, with the values of the run's steps; behind them the verdict, how many races there are, how
-- the threads stand where no step stopped the run, and which blocks a leak has left
abbrev pub steps_text : Seen → List StepValues → List ℕ
steps_text s values =
    flat_map (step_text s values) s.steps ++ stop_text s.count (length s.feet) ++ brief_text [] s.verdict s.races
    ++ rests_text s ++ leaks_text s
