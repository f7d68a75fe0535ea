-- THE HEADLINE: of `run P S`, a program that breaks no rule and a legal schedule of it, the report is the machine's.
use Rattle.std.specs.Prelude.{◌≡◌, ℕ, ◌⊎◌, List, [], ◌∷◌, map, Option, None, Some, codes}
use Rattle.mr_ast.specs.declared.program.Program.{Program}
use Rattle.mr_io.specs.Files.{Contents}
use Rattle.mr_grammar.specs.Denotes.{Denotes}
use Rattle.mr_sched.specs.declared.schedule.Schedule.{Schedule}
use Rattle.mr_sched.specs.declared.version.Version.{Version}
use Rattle.mr_sched.specs.Versions.{Schedules}
use Rattle.mr_run.specs.StartRuns.{IsSoundRun, Legal, run_of, steps_of}
use Rattle.mr_typing.specs.Walk.{faults_of}
use Rattle.mr_event.specs.declared.footprint.Pair.{Pair}
use Rattle.mr_event.specs.Footprint.{Footprint}
use Rattle.mr_event.specs.Order.{IsPredicted}
use Rattle.mr_run.specs.ExchangeWitness.{IsWitness, kept_schedule}
use Rattle.mr_input.specs.ReportReport.{report_text}
use Rattle.mr_input.specs.Answer.{Answer}
use Rattle.mr_input.specs.Writing.{IsLeft, IsWritten}
use Rattle.mr_answer.specs.Report.{line_of, report_status}

-- The words are `run P S`: P denotes the program, which breaks no rule, and S has the text of a legal schedule of it.
pub record Names (files : Contents) (words : List (List ℕ)) (p : Program) (v : Version) (w : Schedule) : Type 0 where
  pub program_name : List ℕ
  pub schedule_name : List ℕ
  pub are_words : words ≡ codes "run" ∷ program_name ∷ schedule_name ∷ []
  pub program_text : List ℕ
  pub program_there : files program_name ≡ Some program_text
  pub denotes : Denotes program_text p
  pub unbroken : faults_of p ≡ []
  pub schedule_text : List ℕ
  pub schedule_there : files schedule_name ≡ Some schedule_text
  pub schedules : Schedules schedule_text v w
  pub legal : Legal p w

-- the schedule that is written as the witness for the first of some races, where there is one
abbrev pub witness_of : List Footprint → Schedule → List Pair → Option Schedule
witness_of run w [] = None
witness_of run w (pair ∷ races) = Some (kept_schedule run w pair.first pair.second)

-- the report of the run with these races, with the witness in the version, and the exit status
abbrev pub report_in : Program → Version → Schedule → List Pair → Answer
report_in p v w races = record {
  text = report_text (map line_of (run_of p w).output) (run_of p w).verdict races (witness_of (steps_of p w) w races) v;
  status = report_status (run_of p w).verdict races;
}

-- No step is ill-formed; the races are the predicted ones, the witness of the first is one, and the report is written.
pub record IsOfMachine (p : Program) (v : Version) (w : Schedule) (files_rose out_rose : Type 0)
    (old new : Option (List ℕ)) (status : ℕ) : Type 0 where
  pub sound : IsSoundRun p w
  pub races : List Pair
  pub predicted : IsPredicted (steps_of p w) races
  pub witness : (pair : Pair) (others : List Pair) → races ≡ pair ∷ others
      → IsWitness p w pair.first pair.second (kept_schedule (steps_of p w) w pair.first pair.second)
  pub report : IsWritten (report_in p v w races) out_rose old new status
      ⊎ (IsLeft old new status ⊎ (files_rose × ((status ≡ 6) ⊎ (status ≡ 7))))
