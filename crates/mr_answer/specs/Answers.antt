-- What is answered of the run of a program under a schedule, in each format; and of races that are listed.
use Rattle.std.specs.Prelude.{ℕ, ◌-◌, ◌==◌, if◌then◌else◌, List, [], ◌∷◌, ◌++◌, codes, decimal, length, map, Option, None, Some, Result, Ok, Err}
use Rattle.mr_ast.specs.declared.program.Program.{Program}
use Rattle.mr_sched.specs.declared.schedule.Schedule.{Schedule}
use Rattle.mr_sched.specs.declared.version.Version.{Version}
use Rattle.mr_sched.specs.declared.version.Version.TheVariants.{One}
use Rattle.mr_step.specs.PlanRuns.{Config}
use Rattle.mr_step.specs.ThreadSteps.{Own}
use Rattle.mr_event.specs.Footprint.{Footprint}
use Rattle.mr_event.specs.declared.footprint.Pair.{Pair}
use Rattle.mr_event.specs.Predicted.{predicted}
use Rattle.mr_step.specs.StartRuns.{run_of, schedule_fault, steps_of, PlacedFault}
use Rattle.mr_run.specs.declared.witnesses.Selection.{Selection}
use Rattle.mr_run.specs.declared.witnesses.Selection.TheVariants.{Kept, Needed}
use Rattle.mr_run.specs.Witnesses.{witness_for}
use Rattle.mr_witness.specs.Shuffled.{shuffled}
use Rattle.mr_auto.specs.Drawing.{drawn_schedule}
use Rattle.mr_gen.specs.Generated.{generated, rounds_of, workers_of}
use Rattle.mr_report.specs.Report.{brief_text, line, races_text}
use Rattle.mr_trace.specs.Spelling.{spelling}
use Rattle.mr_sched.specs.Versions.{line_in, text_in}
use Rattle.mr_input.specs.declared.refusal.Refusal.{Refusal}
use Rattle.mr_input.specs.declared.refusal.Refusal.TheVariants as refusal
use Rattle.mr_input.specs.Answer.{Answer, told}
use Rattle.mr_answer.specs.declared.formats.Format.{Format}
use Rattle.mr_answer.specs.declared.formats.Format.TheVariants.{Footprints, Json, Short, Shuffled, Text}
use Rattle.mr_answer.specs.Report.{line_of, report_of, report_status}

-- THE LINE OF A PLACE in the text of a schedule: that of the start, or that which holds the entry
abbrev pub line_at : Version → Schedule → ℕ → ℕ
line_at v w place = if place == 2 then 2 else line_in v w.entries (place - 3)

-- a thing, or the rule that a schedule breaks, as a refusal on the line of its place: that of the start line is 2, and
-- that of the first entry 3
abbrev pub unless_broken : {A : Type 0} → Version → Schedule → Option PlacedFault → A → Result A Refusal
unless_broken v w None x = Ok x
unless_broken v w (Some f) x = Err (refusal.Schedule (line_at v w f.line) f.fault.code f.fault.earlier)

-- WHAT A RUN COMES TO: where the machine stands, and the footprints of the steps that completed
pub record Ran : Type 0 where
  pub config : Config Own
  pub steps : List Footprint

-- what the run of a program under a schedule comes to
abbrev pub ran : Program → Schedule → Ran
ran p w = record { config = run_of p w; steps = steps_of p w }

-- the same, or the first rule that the schedule breaks, on its line of the text in a version
abbrev pub legal_run : Version → Program → Schedule → Result Ran Refusal
legal_run v p w = unless_broken v w (schedule_fault p w) (ran p w)

-- which entries the witness takes in a format: `short` leaves out more
abbrev pub selection_of : Format → Selection
selection_of Text = Kept
selection_of Json = Kept
selection_of Short = Needed
selection_of Footprints = Kept
selection_of (Shuffled number) = Kept

-- the report in a format of where the machine stands, of these races, and of this witness in a version; and its status
abbrev pub told_by : Format → Version → Config Own → List Pair → Option Schedule → Answer
told_by format v config races witness = record {
  text = report_of format config.output config.verdict races witness v;
  status = report_status config.verdict races;
}

-- what a run under a schedule came to, in a format, with the witness in a version; and its status
abbrev pub told_in : Format → Version → Schedule → Ran → Answer
told_in format v w r =
    told_by format v r.config (predicted r.steps) (witness_for (selection_of format) r.steps w (predicted r.steps))

-- the text of a schedule in a version, and behind it an answer
abbrev pub behind_schedule : Version → Schedule → Answer → Answer
behind_schedule v w a = record { text = text_in v w ++ a.text; status = a.status }

-- the text of a schedule in a version, and behind it what the run of a program under it came to
abbrev pub ordered_answer : Program → Version → Schedule → Answer
ordered_answer p v w = behind_schedule v w (told_in Text v w (ran p w))

-- a schedule that is drawn is written in version 1
abbrev pub drawn_answer : Program → Schedule → Answer
drawn_answer p w = ordered_answer p One w

-- the run in an order that is drawn from a number, where no race is listed; and else what the run came to
abbrev pub shuffled_answer : ℕ → Program → Version → Schedule → Ran → List Pair → Answer
shuffled_answer number p v w r [] = ordered_answer p v (shuffled r.steps w number)
shuffled_answer number p v w r (pair ∷ races) = told_in Text v w r

-- the bytes of the footprints of a run
abbrev pub traced : List Footprint → Answer
traced steps = record { text = spelling steps; status = 0 }

-- THE REPORT of a run of a program under a schedule, in a format, with schedules in a version, and its status; or the
-- bytes of its footprints
abbrev pub reported : Format → Program → Version → Schedule → Ran → Answer
reported Text p v w r = told_in Text v w r
reported Json p v w r = told_in Json v w r
reported Short p v w r = told_in Short v w r
reported Footprints p v w r = traced r.steps
reported (Shuffled number) p v w r = shuffled_answer number p v w r (predicted r.steps)

-- the report of the run of a program under a schedule whose text is in a version, or the first rule that the schedule
-- breaks, with the line of the text
abbrev pub run_report : Format → Program → Version → Schedule → Answer
run_report format p v w = told (reported format p v w) (legal_run v p w)

-- what is said of a run of the program of a number, under a schedule with so many entries: what it printed, its verdict
-- and how many races it shows
abbrev pub summary : ℕ → ℕ → Config Own → List Pair → Answer
summary number entries config races = record {
  text =
      line (codes "big " ++ decimal number) ++ line (codes "workers " ++ decimal (workers_of number))
      ++ line (codes "rounds " ++ decimal (rounds_of number)) ++ line (codes "entries " ++ decimal entries)
      ++ brief_text (map line_of config.output) config.verdict races;
  status = report_status config.verdict races;
}

-- the schedule that is drawn from that number, with at most 65,536 entries
abbrev pub big_schedule : ℕ → Schedule
big_schedule number = drawn_schedule (generated number) number 65536

-- what is said of the run under it
abbrev pub big_answer : ℕ → Answer
big_answer number =
    summary number (length (big_schedule number).entries) (run_of (generated number) (big_schedule number))
    (predicted (steps_of (generated number) (big_schedule number)))

-- 0 where no race is listed
abbrev pub races_status : List Pair → ℕ
races_status [] = 0
races_status (p ∷ races) = 1

-- what is said of races that bytes show: how many there are, and each
abbrev pub listed : List Pair → Answer
listed races = record { text = races_text races; status = races_status races }
