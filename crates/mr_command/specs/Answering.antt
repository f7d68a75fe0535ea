-- How a command is answered, whatever the files do.
use Rattle.std.specs.Prelude.{◌≡◌, ℕ, ◌⊎◌, List, [], Option, Some, Result, Ok, Err}
use Rattle.mr_ast.specs.declared.program.Program.{Program}
use Rattle.mr_io.specs.Files.{Contents}
use Rattle.mr_typing.specs.Walk.{faults_of}
use Rattle.mr_input.specs.declared.written.Written.{Written}
use Rattle.mr_input.specs.declared.refusal.Refusal.{Refusal}
use Rattle.mr_input.specs.declared.refusal.Refusal.TheVariants as refusal
use Rattle.mr_input.specs.Answer.{TellsOrUnread, told, Tells}
use Rattle.mr_input.specs.Inputs.{holding, program_in, schedule_in}
use Rattle.mr_answer.specs.declared.formats.Format.{Format}
use Rattle.mr_answer.specs.Answers.{big_answer, listed}
use Rattle.mr_command.specs.Answer.{races_in, run_answer, said_answer, upgrade_answer}
use Rattle.mr_command.specs.Command.{Command, OfNumber, OfProgram, OfSchedule, OfTrace, Run}
use Rattle.mr_command.specs.declared.command.Saying.{Saying}
use Rattle.mr_command.specs.Outcome.{over_holding}

-- what is said of a program that is run under the schedule in a file; or, where it breaks no rule, the read of that
-- failed
abbrev pub IsFormOrReport : Type 0 → Format → Option (List ℕ) → Program → Result Written Refusal → Type 0
IsFormOrReport rose format file p result =
    Tells (run_answer format file p) result
    ⊎ (rose × (faults_of p ≡ []) × (result ≡ Err refusal.ReadSchedule))

-- a read failed: that of the program, or that of the schedule behind a program that breaks no rule
abbrev pub IsUnreadHere : Contents → List ℕ → Result Written Refusal → Type 0
IsUnreadHere files program result =
    (result ≡ Err refusal.ReadProgram)
    ⊎ ((p : Program) × (program_in (files program) ≡ Ok p) × (faults_of p ≡ []) × (result ≡ Err refusal.ReadSchedule))

-- what is said of the program in one file that is run under the schedule in another, or what refuses it; or a read
-- failed
abbrev pub IsReported : Contents → Format → List ℕ → List ℕ → Type 0 → Result Written Refusal → Type 0
IsReported files format program schedule rose result =
    Tells (told (run_answer format (files schedule)) (program_in (files program))) result
    ⊎ (rose × IsUnreadHere files program result)

-- what is said of the program in a file, or what refuses it; or the read failed
abbrev pub IsSaid : Saying → Contents → List ℕ → Type 0 → Result Written Refusal → Type 0
IsSaid saying files program rose result =
    Tells (told (said_answer saying) (program_in (files program))) result
    ⊎ (rose × (result ≡ Err refusal.ReadProgram))

-- a schedule's file has some text, of which a program that is read is answered
abbrev pub IsRunOverText : Type 0 → Format → Program → Result Written Refusal → Type 0
IsRunOverText rose format p result = (text : List ℕ) × IsFormOrReport rose format (Some text) p result

-- what is said of the schedule in a file, or what refuses it; or the read failed
abbrev pub IsUpgraded : Contents → List ℕ → Type 0 → Result Written Refusal → Type 0
IsUpgraded files schedule rose result = TellsOrUnread rose (told upgrade_answer (schedule_in (files schedule))) result

-- what is said of the trace that a file holds, or what refuses it; or the read failed
abbrev pub IsListedOf : Option (List ℕ) → Type 0 → Result Written Refusal → Type 0
IsListedOf file rose result = Tells (told listed (races_in file)) result ⊎ (rose × (result ≡ Err refusal.ReadTrace))

-- the same of the file of a name
abbrev pub IsListed : Contents → List ℕ → Type 0 → Result Written Refusal → Type 0
IsListed files trace rose result = IsListedOf (files trace) rose result

-- how a command is answered
abbrev pub IsAnswered : Contents → Command → Type 0 → Result Written Refusal → Type 0
IsAnswered files (Run format program schedule) rose result = IsReported files format program schedule rose result
IsAnswered files (OfProgram saying program) rose result = IsSaid saying files program rose result
IsAnswered files (OfSchedule schedule) rose result = IsUpgraded files schedule rose result
IsAnswered files (OfTrace trace) rose result = IsListed files trace rose result
IsAnswered files (OfNumber number) rose result = Tells (big_answer number) result

-- there are texts of the named files of which a command is answered so
abbrev pub IsAnsweredOverTexts : Command → Type 0 → Result Written Refusal → Type 0
IsAnsweredOverTexts command rose result =
    (program : List ℕ) × (schedule : List ℕ) × IsAnswered (holding program schedule) (over_holding command) rose result
