-- What a call answers by definition: a text and a status, from the words and what the files hold.
use Rattle.std.specs.Prelude.{ℕ, List, codes, Option, None, Some, Result, Ok, Err}
use Rattle.mr_ast.specs.declared.program.Program.{Program}
use Rattle.mr_ast.specs.Canon.{canonical_text}
use Rattle.mr_io.specs.Files.{Contents}
use Rattle.mr_sched.specs.declared.schedule.Schedule.{Schedule}
use Rattle.mr_sched.specs.declared.version.Read.{Read}
use Rattle.mr_sched.specs.declared.version.Version.TheVariants.{Two}
use Rattle.mr_event.specs.declared.footprint.Pair.{Pair}
use Rattle.mr_typing.specs.Walk.{faults_of}
use Rattle.mr_answer.specs.AutoDrawing.{drawn_schedule}
use Rattle.mr_input.specs.ReportReport.{line}
use Rattle.mr_trace.specs.Reading.{Place, races_of}
use Rattle.mr_sched.specs.Versions.{text_in}
use Rattle.mr_input.specs.declared.refusal.Refusal.{Refusal}
use Rattle.mr_input.specs.declared.refusal.Refusal.TheVariants as refusal
use Rattle.mr_input.specs.Inputs.{program_in, schedule_in}
use Rattle.mr_input.specs.Answer.{Answer, told, form_or}
use Rattle.mr_answer.specs.declared.formats.Format.{Format}
use Rattle.mr_answer.specs.Answers.{drawn_answer, big_answer, run_report, listed}
use Rattle.mr_command.specs.Command.{Command, OfNumber, OfProgram, OfSchedule, OfTrace, Run}
use Rattle.mr_command.specs.declared.command.Saying.{Saying}
use Rattle.mr_command.specs.declared.command.Saying.TheVariants.{Canonical, Drawn}

-- the races that bytes show, or their first fault, as a refusal
abbrev pub shown : Result (List Pair) Place → Result (List Pair) Refusal
shown (Ok races) = Ok races
shown (Err f) = Err (refusal.Trace f.at f.code)

-- the races that the trace in a file shows
abbrev pub races_in : Option (List ℕ) → Result (List Pair) Refusal
races_in None = Err refusal.ReadTrace
races_in (Some bytes) = shown (races_of bytes)

-- the canonical text of a program
abbrev pub canonical : Program → Answer
canonical p = record { text = canonical_text p; status = 0 }

-- what is said of a program that breaks no rule: its canonical text; or the schedule that is drawn for it, and its
-- report
abbrev pub said : Saying → Program → Answer
said Canonical p = canonical p
said (Drawn number most) p = drawn_answer p (drawn_schedule p number most)

-- the same of any program: the line of the first rule that it breaks, where it breaks one
abbrev pub said_answer : Saying → Program → Answer
said_answer saying p = form_or p (faults_of p) (said saying p)

-- the report of the run of a program under a schedule that was read, or the first rule that the schedule breaks
abbrev pub read_report : Format → Program → Read → Answer
read_report format p r = run_report format p r.version r.schedule

-- the report of the run of a program under the schedule in a file, or what refuses it: first of the schedule's file,
-- then of the run
abbrev pub report_under : Format → Option (List ℕ) → Program → Answer
report_under format file p = told (read_report format p) (schedule_in file)

-- what is said of a program that is run under the schedule in a file: the report, where the program breaks no rule
abbrev pub run_answer : Format → Option (List ℕ) → Program → Answer
run_answer format file p = form_or p (faults_of p) (report_under format file p)

-- what is said of a schedule that is read: its text in version 2
abbrev pub upgraded : Schedule → Answer
upgraded w = record { text = text_in Two w; status = 0 }

-- the same of what was read, whatever its version
abbrev pub upgrade_answer : Read → Answer
upgrade_answer r = upgraded r.schedule

-- the line for words of no form
abbrev pub usage_text : List ℕ
usage_text = line (codes "usage: see the table of commands")

-- what words of no form are told
abbrev pub usage : Answer
usage = record { text = usage_text; status = 2 }

-- THE ANSWER to a command over these files; words of no form are told the usage
abbrev pub answer_of : Contents → Option Command → Answer
answer_of files None = usage
answer_of files (Some (Run format program schedule)) =
    told (run_answer format (files schedule)) (program_in (files program))
answer_of files (Some (OfProgram saying program)) = told (said_answer saying) (program_in (files program))
answer_of files (Some (OfSchedule schedule)) = told upgrade_answer (schedule_in (files schedule))
answer_of files (Some (OfTrace trace)) = told listed (races_in (files trace))
answer_of files (Some (OfNumber number)) = big_answer number
