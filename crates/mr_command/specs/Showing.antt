-- What an answer shows of the run whose footprints were written, and of the file whose races were listed.
use Rattle.std.specs.Prelude.{◌≡◌, ℕ, ◌<◌, ◌≤◌, ◌^◌, ◌⊎◌, List, [], length, Option, None, Some, Result, Ok, Err}
use Rattle.mr_ast.specs.declared.program.Program.{Program}
use Rattle.mr_io.specs.Files.{Contents}
use Rattle.mr_sched.specs.declared.schedule.Schedule.{Schedule}
use Rattle.mr_sched.specs.declared.version.Read.{Read}
use Rattle.mr_run.specs.StartRuns.{steps_of}
use Rattle.mr_trace.specs.Spelling.{AreBytes, IsRun}
use Rattle.mr_typing.specs.Walk.{faults_of}
use Rattle.mr_input.specs.declared.written.Written.{Written}
use Rattle.mr_input.specs.declared.refusal.Refusal.{Refusal}
use Rattle.mr_input.specs.declared.refusal.Refusal.TheVariants as refusal
use Rattle.mr_input.specs.Inputs.{program_in, schedule_in}
use Rattle.mr_answer.specs.declared.formats.Format.{Format}
use Rattle.mr_answer.specs.declared.formats.Format.TheVariants.{Footprints, Json, Short, Shuffled, Text}
use Rattle.mr_answer.specs.Spelled.{IsSpelled}
use Rattle.mr_command.specs.Command.{Command, OfNumber, OfProgram, OfSchedule, OfTrace, Run}

-- the file has bytes, or more of them than are read
abbrev pub HasBytes : Option (List ℕ) → Type 0
HasBytes None = ⊥
HasBytes (Some text) = AreBytes text ⊎ (2 ^ 28 < length text)

-- where races are listed, or a fault of the bytes is told, the file was read
abbrev pub IsOfBytes : Option (List ℕ) → Result Written Refusal → Type 0
IsOfBytes file (Ok a) = HasBytes file
IsOfBytes file (Err (refusal.Trace at code)) = HasBytes file
IsOfBytes file (Err refusal.ReadProgram) = Unit {0}
IsOfBytes file (Err (refusal.Text line col code)) = Unit {0}
IsOfBytes file (Err refusal.ReadSchedule) = Unit {0}
IsOfBytes file (Err (refusal.Schedule line code earlier)) = Unit {0}
IsOfBytes file (Err refusal.ReadTrace) = Unit {0}
IsOfBytes file (Err refusal.Memory) = Unit {0}

-- what the answer to a command shows of the run whose footprints were written, and of the file whose races were listed
abbrev pub Shows : Contents → Command → Result Written Refusal → Type 0
Shows files (Run format program schedule) result =
    (p : Program) (r : Read) → program_in (files program) ≡ Ok p → faults_of p ≡ []
    → schedule_in (files schedule) ≡ Ok r → IsSpelled format p r.schedule result
Shows files (OfProgram saying program) result = Unit {0}
Shows files (OfSchedule schedule) result = Unit {0}
Shows files (OfTrace trace) result = IsOfBytes (files trace) result
Shows files (OfNumber number) result = Unit {0}

-- the same, by the status
abbrev pub IsSpelledBy : Format → Program → Schedule → ℕ → Type 0
IsSpelledBy Text p w status = Unit {0}
IsSpelledBy Json p w status = Unit {0}
IsSpelledBy Short p w status = Unit {0}
IsSpelledBy Footprints p w status = status ≤ 1 → IsRun (steps_of p w)
IsSpelledBy (Shuffled number) p w status = Unit {0}

abbrev pub ShowsBy : Contents → Command → ℕ → Type 0
ShowsBy files (Run format program schedule) status =
    (p : Program) (r : Read) → program_in (files program) ≡ Ok p → faults_of p ≡ []
    → schedule_in (files schedule) ≡ Ok r → IsSpelledBy format p r.schedule status
ShowsBy files (OfProgram saying program) status = Unit {0}
ShowsBy files (OfSchedule schedule) status = Unit {0}
ShowsBy files (OfTrace trace) status = (status ≤ 1) ⊎ (status ≡ 9) → HasBytes (files trace)
ShowsBy files (OfNumber number) status = Unit {0}

-- and by the words, where they are a command
abbrev pub Shown : Contents → Option Command → ℕ → Type 0
Shown files None status = Unit {0}
Shown files (Some command) status = ShowsBy files command status
