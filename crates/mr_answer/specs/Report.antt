-- The report of a run in each format, and its status.
use Rattle.std.specs.Prelude.{ℕ, List, [], ◌∷◌, map, Option}
use Rattle.mr_base.specs.declared.reason.Verdict.{Verdict}
use Rattle.mr_base.specs.declared.reason.Verdict.TheVariants as verdict
use Rattle.mr_event.specs.declared.footprint.Pair.{Pair}
use Rattle.mr_report.specs.declared.report.Line.{Line}
use Rattle.mr_report.specs.Json.{json_text}
use Rattle.mr_report.specs.Report.{report_text}
use Rattle.mr_sched.specs.declared.schedule.Schedule.{Schedule}
use Rattle.mr_sched.specs.declared.version.Version.{Version}
use Rattle.mr_step.specs.PlanRuns.{Printed}
use Rattle.mr_answer.specs.declared.formats.Format.{Format}
use Rattle.mr_answer.specs.declared.formats.Format.TheVariants.{Footprints, Json, Short, Shuffled, Text}

-- a print, as the report has it
abbrev pub line_of : Printed → Line
line_of p = record { thread = p.thread; text = p.text }

-- a report in a format, with the witness in a version
abbrev pub written_as : Format → List Line → Verdict → List Pair → Option Schedule → Version → List ℕ
written_as Text output v races witness version = report_text output v races witness version
written_as Json output v races witness version = json_text output v races witness version
written_as Short output v races witness version = report_text output v races witness version
written_as Footprints output v races witness version = report_text output v races witness version
written_as (Shuffled number) output v races witness version = report_text output v races witness version

-- The prints in order, the verdict, the races, and the witness where there is one.
abbrev pub report_of : Format → List Printed → Verdict → List Pair → Option Schedule → Version → List ℕ
report_of format output v races witness version = written_as format (map line_of output) v races witness version

-- 0 where the run ended by exit or is running still
abbrev pub verdict_status : Verdict → ℕ
verdict_status verdict.Running = 0
verdict_status verdict.Exit = 0
verdict_status _ = 1

-- and no race is listed
abbrev pub report_status : Verdict → List Pair → ℕ
report_status v [] = verdict_status v
report_status v (p ∷ races) = 1
