-- How a call ends, whatever the files and the sink do.
use Rattle.std.specs.Prelude.{◌≡◌, ℕ, ◌⊎◌, List, Option, None, Some, codes}
use Rattle.mr_io.specs.Files.{Contents}
use Rattle.mr_input.specs.declared.refusal.Refusal.TheVariants as refusal
use Rattle.mr_input.specs.Answer.{Answer, refused}
use Rattle.mr_input.specs.Inputs.{holding}
use Rattle.mr_input.specs.Writing.{IsLeft, IsWritten}
use Rattle.mr_show.specs.Answer.{answer_of, usage}
use Rattle.mr_show.specs.Form.{Bare, CheckedProgram, CheckedSchedule, Form, Help, Hunted, Shown, Why}
use Rattle.mr_show.specs.Second.{AsksForSecond}

-- A read failed, which is counted: that of the first file, or that of the second, behind a program that breaks no rule
-- or a trace; where the two are checked, behind any program.
abbrev pub IsUnread : Contents → Form → Answer → Type 0
IsUnread files (Shown saying program schedule) a =
    (a ≡ refused refusal.ReadProgram)
    ⊎ (AsksForSecond saying (files program) × (a ≡ refused refusal.ReadSchedule))
IsUnread files (Hunted range seek name program) a = a ≡ refused refusal.ReadProgram
IsUnread files (Bare alone trace) a = a ≡ refused refusal.ReadTrace
IsUnread files (CheckedProgram name program) a = a ≡ refused refusal.ReadProgram
IsUnread files (CheckedSchedule name schedule_name program schedule) a =
    (a ≡ refused refusal.ReadProgram) ⊎ (a ≡ refused refusal.ReadSchedule)
IsUnread files (Why code) a = ⊥
IsUnread files (Help text) a = ⊥

-- the answer by definition, or that of a read that failed where the count of faults of the files rose
abbrev pub IsPossible : Contents → Form → Type 0 → Answer → Type 0
IsPossible files form rose a = (a ≡ answer_of files (Some form)) ⊎ (rose × IsUnread files form a)

-- HOW A CALL ENDS over files that tell what they hold: a possible answer was written, or memory ran out before anything
-- was; words of no form are told the usage
abbrev pub Ends : Contents → Option Form → Type 0 → Type 0 → Option (List ℕ) → Option (List ℕ) → ℕ → Type 0
Ends files None files_rose out_rose old new status = IsWritten usage out_rose old new status
Ends files (Some form) files_rose out_rose old new status =
    IsLeft old new status
    ⊎ ((a : Answer) × IsPossible files form files_rose a × IsWritten a out_rose old new status)

-- ---- files that don't tell what they hold

-- the same form over two files, named `program` and `schedule`; a name that is written stays as it is
abbrev pub over_holding : Form → Form
over_holding (Shown saying program schedule) = Shown saying (codes "program") (codes "schedule")
over_holding (Hunted range seek name program) = Hunted range seek name (codes "program")
over_holding (Bare alone trace) = Bare alone (codes "program")
over_holding (CheckedProgram name program) = CheckedProgram name (codes "program")
over_holding (CheckedSchedule name schedule_name program schedule) =
    CheckedSchedule name schedule_name (codes "program") (codes "schedule")
over_holding (Why code) = Why code
over_holding (Help text) = Help text

-- How a call ends over files that don't tell what they hold: there are texts of the named files of which it ends as
-- defined.
abbrev pub EndsOverTexts : Option Form → Type 0 → Type 0 → Option (List ℕ) → Option (List ℕ) → ℕ → Type 0
EndsOverTexts None files_rose out_rose old new status = IsWritten usage out_rose old new status
EndsOverTexts (Some form) files_rose out_rose old new status =
    (program : List ℕ) × (schedule : List ℕ)
    × Ends (holding program schedule) (Some (over_holding form)) files_rose out_rose old new status
