-- The program and the schedule that files hold, or what refuses them; and what a read may come to instead.
use Rattle.std.specs.Prelude.{ℕ, List, [], Option, None, Some, Result, Ok, Err, ◌≡◌, ◌⊎◌, bytes_eq, codes, if◌then◌else◌}
use Rattle.mr_ast.specs.declared.program.Program.{Program}
use Rattle.mr_io.specs.Files.{Contents}
use Rattle.mr_lex.specs.declared.token.TextFault.{TextFault}
use Rattle.mr_parse.specs.GrammarParsing.{parsed}
use Rattle.mr_sched.specs.declared.version.Read.{Read}
use Rattle.mr_sched.specs.Reading.{Fault, schedule_of}
use Rattle.mr_typing.specs.Walk.{faults_of}
use Rattle.mr_input.specs.declared.refusal.Refusal.{Refusal}
use Rattle.mr_input.specs.declared.refusal.Refusal.TheVariants as refusal

-- the first fault of a text, as a refusal
abbrev pub text_refusal : TextFault → Refusal
text_refusal f = refusal.Text f.line f.col f.code

-- the program that a text denotes, or the text's first fault
abbrev pub denoted : Result Program TextFault → Result Program Refusal
denoted (Ok p) = Ok p
denoted (Err f) = Err (text_refusal f)

-- the program in a file
abbrev pub program_in : Option (List ℕ) → Result Program Refusal
program_in None = Err refusal.ReadProgram
program_in (Some bytes) = denoted (parsed bytes)

-- two files, named `program` and `schedule`, that hold these texts
abbrev pub holding : List ℕ → List ℕ → Contents
holding program schedule name =
    if bytes_eq name (codes "program") then Some program
    else (if bytes_eq name (codes "schedule") then Some schedule else None)

-- the schedule that a text spells and its version, or the text's first fault, as a refusal
abbrev pub spelled : Result Read Fault → Result Read Refusal
spelled (Ok r) = Ok r
spelled (Err f) = Err (refusal.Schedule f.line f.code None)

-- the schedule in a file, and the version of its text
abbrev pub schedule_in : Option (List ℕ) → Result Read Refusal
schedule_in None = Err refusal.ReadSchedule
schedule_in (Some bytes) = spelled (schedule_of bytes)

-- What a function returned is what is defined, unless memory ran out.
abbrev pub Gives : {A : Type 0} → Result A Refusal → Result A Refusal → Type 0
Gives (Ok x) defined = defined ≡ Ok x
Gives (Err refusal.Memory) defined = Unit {0}
Gives (Err refusal.ReadProgram) defined = defined ≡ Err refusal.ReadProgram
Gives (Err (refusal.Text at col code)) defined = defined ≡ Err (refusal.Text at col code)
Gives (Err refusal.ReadSchedule) defined = defined ≡ Err refusal.ReadSchedule
Gives (Err refusal.ReadTrace) defined = defined ≡ Err refusal.ReadTrace
Gives (Err (refusal.Trace at code)) defined = defined ≡ Err (refusal.Trace at code)
Gives (Err (refusal.Schedule at code earlier)) defined = defined ≡ Err (refusal.Schedule at code earlier)

-- what a file was read for: as defined, or the read failed where the count of faults rose
abbrev pub IsRead : {A : Type 0} → Type 0 → Refusal → Result A Refusal → Result A Refusal → Type 0
IsRead rose unread result defined = Gives result defined ⊎ (rose × (result ≡ Err unread))

-- why there is no text of a program in a file: what refuses the program there, or the read failed where the count of
-- faults rose
abbrev pub IsNoText : Type 0 → Option (List ℕ) → Refusal → Type 0
IsNoText rose file r = IsRead {A = Program} rose refusal.ReadProgram (Err r) (program_in file)

-- The file's text denotes a program that breaks no rule: only then its schedule is read.
abbrev pub AsksForSchedule : Option (List ℕ) → Type 0
AsksForSchedule file = (p : Program) × (program_in file ≡ Ok p) × (faults_of p ≡ [])

-- the answer is that a file was not read
abbrev pub IsUnreadFault : {A : Type 0} → Result A Refusal → Type 0
IsUnreadFault result =
    (result ≡ Err refusal.ReadProgram) ⊎ ((result ≡ Err refusal.ReadSchedule) ⊎ (result ≡ Err refusal.ReadTrace))
