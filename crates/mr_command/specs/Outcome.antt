-- How a call ends, whatever the files and the sink do.
use Rattle.std.specs.Prelude.{◌≡◌, ℕ, ◌⊎◌, List, [], Option, None, Some, Ok, codes}
use Rattle.mr_ast.specs.declared.program.Program.{Program}
use Rattle.mr_io.specs.Files.{Contents}
use Rattle.mr_typing.specs.Walk.{faults_of}
use Rattle.mr_input.specs.declared.refusal.Refusal.TheVariants as refusal
use Rattle.mr_input.specs.Answer.{Answer, refused}
use Rattle.mr_input.specs.Inputs.{holding, program_in}
use Rattle.mr_input.specs.Writing.{IsWritten}
use Rattle.mr_command.specs.Command.{Command, OfNumber, OfProgram, OfSchedule, OfTrace, Run}
use Rattle.mr_command.specs.Answer.{answer_of, usage}

-- A read failed, which is counted: that of the program, or that of the schedule; where the command names a program,
-- only behind one that breaks no rule.
abbrev pub IsUnread : Contents → Option Command → Answer → Type 0
IsUnread files None a = ⊥
IsUnread files (Some (Run format program schedule)) a =
    (a ≡ refused refusal.ReadProgram)
    ⊎ ((p : Program) × (program_in (files program) ≡ Ok p) × (faults_of p ≡ []) × (a ≡ refused refusal.ReadSchedule))
IsUnread files (Some (OfProgram saying program)) a = a ≡ refused refusal.ReadProgram
IsUnread files (Some (OfSchedule schedule)) a = a ≡ refused refusal.ReadSchedule
IsUnread files (Some (OfTrace trace)) a = a ≡ refused refusal.ReadTrace
IsUnread files (Some (OfNumber number)) a = ⊥

-- the answer by definition, or that of a read that failed where the count of faults of the files rose
abbrev pub IsPossible : Contents → Option Command → Type 0 → Answer → Type 0
IsPossible files command rose a = (a ≡ answer_of files command) ⊎ (rose × IsUnread files command a)

-- memory ran out before anything was written, which comes for no words without a form
abbrev pub RanOut : Option Command → Option (List ℕ) → Option (List ℕ) → ℕ → Type 0
RanOut None old new status = ⊥
RanOut (Some c) old new status = (status ≡ 8) × (new ≡ old)

-- how a call ends over files that tell what they hold
abbrev pub Ends : Contents → Option Command → Type 0 → Type 0 → Option (List ℕ) → Option (List ℕ) → ℕ → Type 0
Ends files command files_rose out_rose old new status =
    RanOut command old new status
    ⊎ ((a : Answer) × IsPossible files command files_rose a × IsWritten a out_rose old new status)

-- The same command over these files. A trace, which is read alone, stands where a schedule would.
abbrev pub over_holding : Command → Command
over_holding (Run format program schedule) = Run format (codes "program") (codes "schedule")
over_holding (OfProgram saying program) = OfProgram saying (codes "program")
over_holding (OfSchedule schedule) = OfSchedule (codes "schedule")
over_holding (OfTrace trace) = OfTrace (codes "schedule")
over_holding (OfNumber number) = OfNumber number

-- How a call ends over files that don't tell what they hold: there are texts of the named files of which it ends as
-- defined.
-- Where a file is read twice, each read may have found another text.
abbrev pub EndsOverTexts : Option Command → Type 0 → Type 0 → Option (List ℕ) → Option (List ℕ) → ℕ → Type 0
EndsOverTexts None files_rose out_rose old new status = IsWritten usage out_rose old new status
EndsOverTexts (Some c) files_rose out_rose old new status =
    (program : List ℕ) × (schedule : List ℕ)
    × Ends (holding program schedule) (Some (over_holding c)) files_rose out_rose old new status
