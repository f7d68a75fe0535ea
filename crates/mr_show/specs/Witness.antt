-- The schedule that shows the race which is listed for a step of a run, as it is told.
use Rattle.std.specs.Prelude.{◌≡◌, ◌⊎◌, ℕ, ◌+◌, ◌==◌, Bool, false, if◌then◌else◌, List, ◌++◌, codes, decimal, Option, None, Some}
use Rattle.mr_ast.specs.declared.program.Program.{Program}
use Rattle.mr_base.specs.Reasons.{code_of}
use Rattle.mr_base.specs.declared.reason.Reason.TheVariants.{DataRace}
use Rattle.mr_base.specs.declared.reason.Verdict.{Verdict}
use Rattle.mr_base.specs.declared.reason.Verdict.TheVariants.{Abort, Deadlock, Exit, Leak, Running, Undefined}
use Rattle.mr_event.specs.Footprint.{Footprint}
use Rattle.mr_event.specs.Predicted.{predicted}
use Rattle.mr_event.specs.declared.footprint.Pair.{Pair}
use Rattle.mr_sched.specs.Versions.{text_in}
use Rattle.mr_sched.specs.declared.schedule.Schedule.{Schedule}
use Rattle.mr_sched.specs.declared.version.Read.{Read}
use Rattle.mr_sched.specs.declared.version.Version.{Version}
use Rattle.mr_start.specs.Runs.{Legal, PlacedFault, run_of, schedule_fault}
use Rattle.mr_run.specs.Witnesses.{race_of, witness_by}
use Rattle.mr_run.specs.declared.witnesses.Selection.{Selection}
use Rattle.mr_input.specs.Answer.{Answer, told}
use Rattle.mr_answer.specs.Answers.{Ran, legal_run}
use Rattle.mr_answer.specs.Report.{report_status}

-- ---- which schedule

-- a run ended in a data race
abbrev pub is_race : Verdict → Bool
is_race Running = false
is_race Exit = false
is_race Leak = false
is_race Abort = false
is_race Deadlock = false
is_race (Undefined reason) = code_of reason == code_of DataRace

-- a schedule breaks no rule, and its run ended so
abbrev pub ends_in_race : Option PlacedFault → Verdict → Bool
ends_in_race None verdict = is_race verdict
ends_in_race (Some fault) verdict = false

-- WHETHER THE MACHINE REPORTS A DATA RACE behind the last entry of a schedule, none of which breaks a rule
abbrev pub reports_race : Program → Schedule → Bool
reports_race p w = ends_in_race (schedule_fault p w) (run_of p w).verdict

-- ---- its text

-- that no race is listed for a step; steps are counted from 1
unfoldable pub unlisted_text : ℕ → List ℕ
unlisted_text step = (codes "step " ++ decimal (step + 1)) ++ codes " races with no earlier step\n"

-- that the schedule of a race doesn't come to it
unfoldable pub hindered_text : Pair → List ℕ
hindered_text pair =
    (((codes "step " ++ decimal (pair.second + 1)) ++ codes " races with step ") ++ decimal (pair.first + 1))
    ++ codes ", but an earlier race is in its way\n"

-- the schedule of a race in a version, if a data race is reported behind it
abbrev pub found_text : Version → Pair → Schedule → Bool → List ℕ
found_text v pair found reported = if reported then text_in v found else hindered_text pair

-- the schedule of a race in a version, where the machine reports a data race behind it
abbrev pub shown_text : Program → Version → Pair → Schedule → List ℕ
shown_text p v pair found = found_text v pair found (reports_race p found)

-- THE TEXT OF THE WITNESS of the race that is listed for a step, of a run with these steps under a schedule that was
-- read: the kept schedule of this race, or the short one; or why there is none
abbrev pub witness_text : ℕ → Selection → Program → Read → List Footprint → Option Pair → List ℕ
witness_text step selection p r steps None = unlisted_text step
witness_text step selection p r steps (Some pair) =
    shown_text p r.version pair (witness_by selection steps r.schedule pair.first pair.second)

-- ---- the answer

-- of a run that ended so, with the status of its report
abbrev pub told_of : ℕ → Selection → Program → Read → Verdict → List Footprint → Answer
told_of step selection p r verdict steps = record {
  text = witness_text step selection p r steps (race_of step (predicted steps));
  status = report_status verdict (predicted steps);
}

abbrev pub ran_told : ℕ → Selection → Program → Read → Ran → Answer
ran_told step selection p r ran = told_of step selection p r ran.config.verdict ran.steps

-- THE WITNESS of the race that is listed for a step of the run of a program under a schedule that was read; or the
-- first rule that the schedule breaks
abbrev pub witness_under : ℕ → Selection → Program → Read → Answer
witness_under step selection p r = told (ran_told step selection p r) (legal_run r.version p r.schedule)

-- ---- what it promises

-- a schedule breaks no rule, and its run ends in a data race
abbrev pub EndsInRace : Program → Schedule → Type 0
EndsInRace p w = Legal p w × ((run_of p w).verdict ≡ Undefined DataRace)

-- THE TEXT OF A RACE whose schedule is this: the schedule, if its run ends in a data race; that an earlier race is in
-- its way, if it doesn't
abbrev pub IsToldOf : Program → Version → Pair → Schedule → List ℕ → Type 0
IsToldOf p v pair found text =
    (EndsInRace p found × (text ≡ text_in v found)) ⊎ ((¬ EndsInRace p found) × (text ≡ hindered_text pair))
