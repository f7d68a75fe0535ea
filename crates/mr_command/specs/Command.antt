-- The words behind the program's name.
use Rattle.std.specs.Prelude.{◌≡◌, ℕ, ◌+◌, ◌≤◌, ◌^◌, ◌⊎◌, List, [], ◌∷◌, Option, None, Some, bytes_eq, codes, if◌then◌else◌}
use Rattle.mr_input.specs.Numbers.{number_below}
use Rattle.mr_answer.specs.declared.formats.Format.{Format}
use Rattle.mr_answer.specs.declared.formats.Format.TheVariants.{Footprints, Json, Short, Shuffled, Text}
use Rattle.mr_command.specs.declared.command.Command.{Command as Words}
use Rattle.mr_command.specs.declared.command.Command.TheVariants as words
use Rattle.mr_command.specs.declared.command.Saying.{Saying}
use Rattle.mr_command.specs.declared.command.Saying.TheVariants.{Canonical, Drawn}

-- What is asked for, by the files that are read: a run of a program under a schedule, reported in a format; something
-- said of a program; a schedule in version 2; the races of a trace; or, of no file, a run of the program of a number.
pub data Command : Type 0 where
  Run : (format : Format) (program schedule : List ℕ) → Command
  OfProgram : (saying : Saying) (program : List ℕ) → Command
  OfSchedule : (schedule : List ℕ) → Command
  OfTrace : (trace : List ℕ) → Command
  OfNumber : (number : ℕ) → Command

-- the format of the report that this word asks for
abbrev pub format_of : List ℕ → Option Format
format_of word =
    if bytes_eq word (codes "run") then Some Text else (if bytes_eq word (codes "json") then Some Json
    else (if bytes_eq word (codes "short") then Some Short
    else (if bytes_eq word (codes "trace") then Some Footprints else None)))

-- a run with its report in this format, where the word asks for one
abbrev pub run_of : Option Format → List ℕ → List ℕ → Option Command
run_of None program schedule = None
run_of (Some format) program schedule = Some (Run format program schedule)

-- a drawn schedule, where both numbers are within their limits
abbrev pub auto_of : List ℕ → Option ℕ → Option ℕ → Option Command
auto_of program None most = None
auto_of program (Some number) None = None
auto_of program (Some number) (Some most) = Some (OfProgram (Drawn number most) program)

-- a run in another order, where the number is within its limit
abbrev pub shuffle_of : List ℕ → List ℕ → Option ℕ → Option Command
shuffle_of program schedule None = None
shuffle_of program schedule (Some number) = Some (Run (Shuffled number) program schedule)

-- a run of a generated program, where the number is within its limit
abbrev pub big_of : Option ℕ → Option Command
big_of None = None
big_of (Some number) = Some (OfNumber number)

-- `run P S`, `json P S`, `short P S`, `trace P S`, `shuffle P S N`, `check P`, `auto P N M`, `big N`, `upgrade S` and
-- `offline T`, where N is below 2^64 and M at most 2^20, and no other form
abbrev pub command_of : List (List ℕ) → Option Command
command_of (word ∷ program ∷ schedule ∷ []) = run_of (format_of word) program schedule
command_of (word ∷ program ∷ number ∷ most ∷ []) =
    if bytes_eq word (codes "auto") then auto_of program (number_below (2 ^ 64) number) (number_below (2 ^ 20 + 1) most)
    else (if bytes_eq word (codes "shuffle") then shuffle_of program number (number_below (2 ^ 64) most) else None)
command_of (word ∷ name ∷ []) =
    if bytes_eq word (codes "check") then Some (OfProgram Canonical name)
    else (if bytes_eq word (codes "big") then big_of (number_below (2 ^ 64) name)
    else (if bytes_eq word (codes "upgrade") then Some (OfSchedule name)
    else (if bytes_eq word (codes "offline") then Some (OfTrace name) else None)))
command_of _ = None

-- a schedule is drawn of at most 2^20 entries
abbrev pub IsWithin : Saying → Type 0
IsWithin Canonical = Unit {0}
IsWithin (Drawn number most) = most ≤ 2 ^ 20

-- what is said of a program keeps its limits
abbrev pub IsBounded : Command → Type 0
IsBounded (Run format program schedule) = Unit {0}
IsBounded (OfProgram saying program) = IsWithin saying
IsBounded (OfSchedule schedule) = Unit {0}
IsBounded (OfTrace trace) = Unit {0}
IsBounded (OfNumber number) = Unit {0}

-- how many files the words name
abbrev pub named_files : Option Command → ℕ
named_files None = 0
named_files (Some (Run format program schedule)) = 2
named_files (Some (OfProgram saying program)) = 1
named_files (Some (OfSchedule schedule)) = 1
named_files (Some (OfTrace trace)) = 1
named_files (Some (OfNumber number)) = 0

-- the command names this file for the program
abbrev pub NamesProgram : Option Command → List ℕ → Type 0
NamesProgram command program =
    ((saying : Saying) × (command ≡ Some (OfProgram saying program)))
    ⊎ ((format : Format) × (schedule : List ℕ) × (command ≡ Some (Run format program schedule)))

-- the command names this file for the schedule
abbrev pub NamesSchedule : Option Command → List ℕ → Type 0
NamesSchedule command schedule =
    (command ≡ Some (OfSchedule schedule))
    ⊎ ((format : Format) × (program : List ℕ) × (command ≡ Some (Run format program schedule)))

-- the command that the words ask for
abbrev pub asked : Words → Command
asked (words.Run format program schedule) = Run format program.now schedule.now
asked (words.OfProgram saying program) = OfProgram saying program.now
asked (words.OfSchedule schedule) = OfSchedule schedule.now
asked (words.OfTrace trace) = OfTrace trace.now
asked (words.OfNumber number) = OfNumber number
