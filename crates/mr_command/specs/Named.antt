-- What the files that a command names hold, and what is told of it: of a program and a legal schedule of it, of texts
-- and their first faults, and of files that were not read.
use Rattle.std.specs.Prelude.{◌≡◌, ℕ, ◌⊎◌, List, [], ◌∷◌, Option, None, Some}
use Rattle.mr_ast.specs.declared.program.Program.{Program}
use Rattle.mr_io.specs.Files.{Contents}
use Rattle.mr_lex.specs.declared.token.TextFault.{TextFault}
use Rattle.mr_grammar.specs.Denotes.{Denotes}
use Rattle.mr_grammar.specs.Faults.{FirstFault}
use Rattle.mr_sched.specs.declared.schedule.Schedule.{Schedule}
use Rattle.mr_sched.specs.Faults.{FirstFault as FirstScheduleFault}
use Rattle.mr_sched.specs.declared.version.Version.{Version}
use Rattle.mr_sched.specs.Versions.{Schedules}
use Rattle.mr_run.specs.StartRuns.{Legal, IsSoundRun, PlacedFault, schedule_fault, steps_of}
use Rattle.mr_typing.specs.declared.fault.FormFault.{FormFault}
use Rattle.mr_typing.specs.Walk.{FirstBroken, WellFormed}
use Rattle.mr_answer.specs.declared.formats.Format.{Format}
use Rattle.mr_answer.specs.declared.formats.Format.TheVariants.{Footprints, Json, Short, Shuffled, Text}
use Rattle.mr_command.specs.Command.{Command, NamesProgram, NamesSchedule, OfProgram, OfSchedule, OfTrace, Run}
use Rattle.mr_command.specs.declared.command.Saying.{Saying}
use Rattle.mr_command.specs.declared.command.Saying.TheVariants.{Canonical, Drawn}
use Rattle.mr_event.specs.declared.footprint.Pair.{Pair}
use Rattle.mr_event.specs.Predicted.{predicted}
use Rattle.mr_run.specs.ExchangeWitness.{IsWitness}
use Rattle.mr_run.specs.WitnessEveryOrder.{ComesToTheSame}
use Rattle.mr_run.specs.WitnessShuffled.{shuffled, shuffled_order}
use Rattle.mr_event.specs.Order.{IsPredicted, IsRearrangement}
use Rattle.mr_run.specs.Witnesses.{witness_by}
use Rattle.mr_input.specs.Answer.{Answer}
use Rattle.mr_answer.specs.Answers.{ran, reported, selection_of}
use Rattle.mr_command.specs.Answer.{said, upgraded}
use Rattle.mr_input.specs.Writing.{IsLeft, IsWhole, IsWritten}

-- a read failed and was told, or the write of that failed
abbrev pub IsReadFault : Type 0 → ℕ → Type 0
IsReadFault rose status = rose × ((status ≡ 6) ⊎ (status ≡ 7))

-- The answer is written, with its status, unless memory ran out or a read or a write failed.
abbrev pub IsTold : Answer → Type 0 → Type 0 → Option (List ℕ) → Option (List ℕ) → ℕ → Type 0
IsTold a files_rose out_rose old new status =
    IsWritten a out_rose old new status
    ⊎ (IsLeft old new status ⊎ IsReadFault files_rose status)

-- ---- runs

-- The command names a file whose text denotes the program, which is well-formed, and a file whose text is that of the
-- schedule in the version; and the schedule is legal.
pub record NamesRun (files : Contents) (command : Option Command) (format : Format) (p : Program)
    (v : Version) (w : Schedule)
    : Type 0 where
  pub program_name : List ℕ
  pub schedule_name : List ℕ
  pub is_run : command ≡ Some (Run format program_name schedule_name)
  pub program_text : List ℕ
  pub program_there : files program_name ≡ Some program_text
  pub denotes : Denotes program_text p
  pub well_formed : WellFormed p
  pub schedule_text : List ℕ
  pub schedule_there : files schedule_name ≡ Some schedule_text
  pub schedules : Schedules schedule_text v w
  pub legal : Legal p w

-- what is written as the witness for the first race that the run shows is one
abbrev pub ShowsFirstRace : Format → Program → Schedule → Type 0
ShowsFirstRace format p w =
    (pair : Pair) (races : List Pair) → predicted (steps_of p w) ≡ pair ∷ races
    → IsWitness p w pair.first pair.second (witness_by (selection_of format) (steps_of p w) w pair.first pair.second)

-- Where no race is listed, what is written of another order is: the order is a rearrangement of the run, and the
-- schedule in it comes to the same.
abbrev pub KeepsResult : Format → Program → Schedule → Type 0
KeepsResult Text p w = Unit {0}
KeepsResult Json p w = Unit {0}
KeepsResult Short p w = Unit {0}
KeepsResult Footprints p w = Unit {0}
KeepsResult (Shuffled number) p w =
    predicted (steps_of p w) ≡ []
    → IsRearrangement (steps_of p w) (shuffled_order (steps_of p w) number)
    × ComesToTheSame p w (shuffled_order (steps_of p w) number) (shuffled (steps_of p w) w number)

-- No step is ill-formed; the listed pairs are the predicted races of the run, each step that has a partner with its
-- greatest one; the witness brings the machine to the first race; another order that is written comes to the same; and
-- the report of the run is written, with schedules in the version.
pub record ReportsRun (format : Format) (p : Program) (v : Version) (w : Schedule) (files_rose out_rose : Type 0)
    (old new : Option (List ℕ)) (status : ℕ) : Type 0 where
  pub sound : IsSoundRun p w
  pub races : IsPredicted (steps_of p w) (predicted (steps_of p w))
  pub witness : ShowsFirstRace format p w
  pub order : KeepsResult format p w
  pub report : IsTold (reported format p v w (ran p w)) files_rose out_rose old new status

-- The files denote a well-formed program, and a legal schedule of it; and the whole report of that run was written,
-- with schedules in the version of the file.
abbrev pub ReportsLegalRun : Contents → Option Command → Format → Option (List ℕ) → Option (List ℕ) → ℕ → Type 0
ReportsLegalRun files command format old new status =
    (p : Program) × (v : Version) × (w : Schedule) × NamesRun files command format p v w
    × IsWhole (reported format p v w (ran p w)) old new status

-- The command is to run a file whose text denotes the program, which is well-formed, under a file of this name.
pub record RunsProgram (files : Contents) (command : Option Command) (p : Program) (schedule_name : List ℕ)
    : Type 0 where
  pub format : Format
  pub name : List ℕ
  pub is_run : command ≡ Some (Run format name schedule_name)
  pub text : List ℕ
  pub there : files name ≡ Some text
  pub denotes : Denotes text p
  pub well_formed : WellFormed p

-- A file of this name is read for a schedule: such a program is run under it, or it is upgraded.
abbrev pub ReadsSchedule : Contents → Option Command → List ℕ → Type 0
ReadsSchedule files command schedule_name =
    ((p : Program) × RunsProgram files command p schedule_name) ⊎ (command ≡ Some (OfSchedule schedule_name))

-- The text of that file has its first fault as a schedule on this line, with this code.
pub record NamesScheduleFault (files : Contents) (command : Option Command) (line code : ℕ) : Type 0 where
  pub schedule_name : List ℕ
  pub reads : ReadsSchedule files command schedule_name
  pub text : List ℕ
  pub there : files schedule_name ≡ Some text
  pub first : FirstScheduleFault text line code

-- Such a program is run under a file whose text is that of the schedule in the version, and this is the first rule that
-- the schedule breaks.
pub record NamesBrokenSchedule (files : Contents) (command : Option Command) (v : Version) (w : Schedule)
    (fault : PlacedFault) : Type 0 where
  pub program : Program
  pub schedule_name : List ℕ
  pub runs : RunsProgram files command program schedule_name
  pub text : List ℕ
  pub there : files schedule_name ≡ Some text
  pub schedules : Schedules text v w
  pub first : schedule_fault program w ≡ Some fault

-- ---- texts

-- the command asks for this of a file whose text denotes the program, which is well-formed
pub record AsksOf (files : Contents) (command : Option Command) (saying : Saying) (p : Program) : Type 0 where
  pub name : List ℕ
  pub is_asked : command ≡ Some (OfProgram saying name)
  pub text : List ℕ
  pub there : files name ≡ Some text
  pub denotes : Denotes text p
  pub well_formed : WellFormed p

-- A file denotes a well-formed program; and what is said of it was written whole.
abbrev pub WritesSaid : Contents → Option Command → Saying → Option (List ℕ) → Option (List ℕ) → ℕ → Type 0
WritesSaid files command saying old new status =
    (p : Program) × AsksOf files command saying p × IsWhole (said saying p) old new status

-- the command is to check a file whose text denotes the program, which is well-formed
abbrev pub ChecksProgram : Contents → Option Command → Program → Type 0
ChecksProgram files command p = AsksOf files command Canonical p

-- A file denotes a well-formed program; and its whole canonical text was written.
abbrev pub WritesCanonical : Contents → Option Command → Option (List ℕ) → Option (List ℕ) → ℕ → Type 0
WritesCanonical files command old new status = WritesSaid files command Canonical old new status

-- the command names a file of a program whose text has this first fault
pub record NamesFault (files : Contents) (command : Option Command) (fault : TextFault) : Type 0 where
  pub name : List ℕ
  pub names_program : NamesProgram command name
  pub text : List ℕ
  pub there : files name ≡ Some text
  pub first : FirstFault text fault

-- the command is to check a file whose text denotes the program, or to run it, and this is the first rule that it
-- breaks
pub record NamesBroken (files : Contents) (command : Option Command) (p : Program) (fault : FormFault) : Type 0 where
  pub name : List ℕ
  pub judges : NamesProgram command name
  pub text : List ℕ
  pub there : files name ≡ Some text
  pub denotes : Denotes text p
  pub first : FirstBroken p fault

-- ---- drawn schedules

-- the command is to draw a schedule for a file whose text denotes the program, which is well-formed
abbrev pub DrawsFor : Contents → Option Command → ℕ → ℕ → Program → Type 0
DrawsFor files command number most p = AsksOf files command (Drawn number most) p

-- A file denotes a well-formed program; and the schedule that is drawn for it was written whole, with its report.
abbrev pub WritesDrawn : Contents → Option Command → ℕ → ℕ → Option (List ℕ) → Option (List ℕ) → ℕ → Type 0
WritesDrawn files command number most old new status = WritesSaid files command (Drawn number most) old new status

-- The schedule is legal, no step under it is ill-formed, and the witness brings the machine to the first race.
pub record IsSoundUnder (p : Program) (w : Schedule) : Type 0 where
  pub legal : Legal p w
  pub sound : IsSoundRun p w
  pub witness : ShowsFirstRace Text p w

-- ---- schedules in version 2

-- the command is to upgrade a file whose text is that of the schedule in the version
pub record Upgrades (files : Contents) (command : Option Command) (v : Version) (w : Schedule) : Type 0 where
  pub name : List ℕ
  pub is_upgrade : command ≡ Some (OfSchedule name)
  pub text : List ℕ
  pub there : files name ≡ Some text
  pub schedules : Schedules text v w

-- A file's text is that of a schedule; and the whole text of that in version 2 was written.
abbrev pub WritesUpgraded : Contents → Option Command → Option (List ℕ) → Option (List ℕ) → ℕ → Type 0
WritesUpgraded files command old new status =
    (v : Version) × (w : Schedule) × Upgrades files command v w × IsWhole (upgraded w) old new status

-- a file's text has a fault as a schedule
abbrev pub HasScheduleFault : Contents → Option Command → Type 0
HasScheduleFault files command = (line : ℕ) × (code : ℕ) × NamesScheduleFault files command line code

-- ---- files that were not read

-- a file that the command names isn't there
abbrev pub LacksFile : Contents → Option Command → Type 0
LacksFile files command =
    ((program : List ℕ) × NamesProgram command program × (files program ≡ None))
    ⊎ (((schedule : List ℕ) × NamesSchedule command schedule × (files schedule ≡ None))
    ⊎ ((trace : List ℕ) × (command ≡ Some (OfTrace trace)) × (files trace ≡ None)))

-- Why a file was not read: a failure, which is counted, or where the files tell what they hold, that it isn't there.
abbrev pub IsUnreadBecause : Type 0 → Option Contents → Option Command → Type 0
IsUnreadBecause rose told command = rose ⊎ ((files : Contents) × (told ≡ Some files) × LacksFile files command)
