-- How a form is answered, whatever the files do.
use Rattle.std.specs.Prelude.{◌≡◌, ◌⊎◌, List, ℕ, [], length, IfOk, Option, Some, Result, Ok, Err}
use Rattle.mr_ast.specs.declared.program.Program.{Program}
use Rattle.mr_event.specs.Footprint.{Footprint}
use Rattle.mr_io.specs.Files.{Contents}
use Rattle.mr_labels.specs.declared.rows.Allocation.{Allocation}
use Rattle.mr_labels.specs.declared.step.Stand.{Stand}
use Rattle.mr_labels.specs.declared.step.ToldStep.{ToldStep}
use Rattle.mr_replay.specs.Spoken.{spoken_of}
use Rattle.mr_run.specs.declared.fault.RunFault.{RunFault}
use Rattle.mr_sched.specs.declared.schedule.Schedule.{Schedule}
use Rattle.mr_step.specs.Standing.{Standing}
use Rattle.mr_typing.specs.Walk.{faults_of}
use Rattle.mr_input.specs.declared.refusal.Refusal.{Refusal}
use Rattle.mr_input.specs.declared.refusal.Refusal.TheVariants as refusal
use Rattle.mr_input.specs.declared.written.Written.{Written}
use Rattle.mr_input.specs.Answer.{IsStatus, Tells}
use Rattle.mr_input.specs.Inputs.{holding, program_in}
use Rattle.mr_show.specs.Seek.{Seek}
use Rattle.mr_show.specs.declared.form.Alone.{Alone}
use Rattle.mr_show.specs.declared.form.Part.{Part}
use Rattle.mr_show.specs.declared.form.Range.{Range}
use Rattle.mr_show.specs.declared.form.Saying.{Saying}
use Rattle.mr_show.specs.declared.form.Telling.{Telling}
use Rattle.mr_why.specs.Why.{entry_of}
use Rattle.mr_show.specs.Answer.{bytes_answer, help_answer, file_answer, program_answer, shown_answer, text_answer}
use Rattle.mr_show.specs.Answer.{part_answer, part_values, run_seen, told_values, why_answer}
use Rattle.mr_refusals.specs.Answers.{IsStatus as IsCheckedStatus}
use Rattle.mr_show.specs.Checked.{checked_file, checked_files}
use Rattle.mr_show.specs.Form.{Bare, CheckedProgram, CheckedSchedule, Form, Help, Hunted, Shown, Why}
use Rattle.mr_show.specs.Gathered.{gathered}
use Rattle.mr_show.specs.Hunted.{hunted_file}
use Rattle.mr_show.specs.Outcome.{over_holding}
use Rattle.mr_show.specs.Second.{AsksForSecond, HoldsTrace}
use Rattle.mr_show.specs.Traced.{bare_answer}

-- of a run that was taken to its end, what was told of it and its footprints make what is said of a part of it
abbrev pub IsToldAs : Part → List ℕ → Program → Schedule → List Allocation → List ToldStep → List (Option Stand)
    → List Footprint → Result Standing RunFault → Type 0
IsToldAs part text p w rows steps stands feet outcome =
    IfOk outcome
    (λ m. part_answer part (spoken_of p w) (part_values part p w rows feet)
    (gathered text p m.config (length w.entries) rows steps stands feet)
    ≡ part_answer part (spoken_of p w) (told_values part p w) (run_seen part text p w))

-- what is said of a program; or, where it breaks no rule, the read of the schedule failed
abbrev pub IsOfProgram : Type 0 → Saying → List ℕ → Option (List ℕ) → Program → Result Written Refusal → Type 0
IsOfProgram rose saying text file p result =
    Tells (program_answer saying text file p) result
    ⊎ (rose × (faults_of p ≡ []) × (result ≡ Err refusal.ReadSchedule))

-- the read of the schedule failed, behind a program that breaks no rule
abbrev pub IsScheduleUnread : Option (List ℕ) → Result Written Refusal → Type 0
IsScheduleUnread file result =
    (p : Program) × (program_in file ≡ Ok p) × (faults_of p ≡ []) × (result ≡ Err refusal.ReadSchedule)

-- what is said of the program in a text; or the read of the schedule failed
abbrev pub IsOfText : Type 0 → Saying → Option (List ℕ) → List ℕ → Result Written Refusal → Type 0
IsOfText rose saying file text result =
    Tells (text_answer saying file text) result ⊎ (rose × IsScheduleUnread (Some text) result)

-- what is said of the program in a file; or a read failed
abbrev pub IsOfFile : Type 0 → Saying → Option (List ℕ) → Option (List ℕ) → Result Written Refusal → Type 0
IsOfFile rose saying schedule program result =
    Tells (file_answer saying schedule program) result
    ⊎ (rose × ((result ≡ Err refusal.ReadProgram) ⊎ IsScheduleUnread program result))

-- the read of the second file failed, behind bytes that are a trace, or the text of a program that breaks no rule
abbrev pub IsSecondUnread : Telling → List ℕ → Result Written Refusal → Type 0
IsSecondUnread what bytes result =
    IsScheduleUnread (Some bytes) result ⊎ (HoldsTrace (Some what) (Some bytes) × (result ≡ Err refusal.ReadSchedule))

-- what is said of bytes, which are a trace or the text of a program; or the read of the second file failed
abbrev pub IsOfBytes : Type 0 → Telling → Saying → Option (List ℕ) → List ℕ → Result Written Refusal → Type 0
IsOfBytes rose what saying second bytes result =
    Tells (bytes_answer (Some what) saying second bytes) result ⊎ (rose × IsSecondUnread what bytes result)

-- what is said of two files, or a read failed: that of the first, or that of the second, where that is read
abbrev pub IsOfFiles : Type 0 → Saying → Option (List ℕ) → Option (List ℕ) → Result Written Refusal → Type 0
IsOfFiles rose saying second first result =
    Tells (shown_answer saying second first) result
    ⊎ (rose × ((result ≡ Err refusal.ReadProgram) ⊎ (AsksForSecond saying first × (result ≡ Err refusal.ReadSchedule))))

-- what is told of the trace in a file; or its read failed
abbrev pub IsBare : Type 0 → Alone → Option (List ℕ) → Result Written Refusal → Type 0
IsBare rose alone file result = Tells (bare_answer alone file) result ⊎ (rose × (result ≡ Err refusal.ReadTrace))

-- what a hunt tells over a file; or its read failed
abbrev pub IsHunted : Type 0 → Range → Seek → List ℕ → Option (List ℕ) → Result Written Refusal → Type 0
IsHunted rose range seek name file result =
    Tells (hunted_file range seek name file) result ⊎ (rose × (result ≡ Err refusal.ReadProgram))

-- what is said of the program in a file by itself; or its read failed
abbrev pub IsChecked : Type 0 → List ℕ → Option (List ℕ) → Result Written Refusal → Type 0
IsChecked rose name file result =
    Tells (checked_file name file) result ⊎ (rose × (result ≡ Err refusal.ReadProgram))

-- what is said of a schedule in one file of the program in another; or the read of one of them failed
abbrev pub IsCheckedUnder : Type 0
    → List ℕ → List ℕ → Option (List ℕ) → Option (List ℕ) → Result Written Refusal → Type 0
IsCheckedUnder rose name schedule_name program schedule result =
    Tells (checked_files name schedule_name program schedule) result
    ⊎ (rose × ((result ≡ Err refusal.ReadProgram) ⊎ (result ≡ Err refusal.ReadSchedule)))

-- the status of an answer, that of a fault of places, or that of what refuses a program or a schedule
abbrev pub IsShownStatus : ℕ → Type 0
IsShownStatus status = IsStatus status ⊎ ((status ≡ 9) ⊎ IsCheckedStatus status)

-- how a form is answered
abbrev pub IsAnswered : Contents → Form → Type 0 → Result Written Refusal → Type 0
IsAnswered files (Shown saying program schedule) rose result =
    IsOfFiles rose saying (files schedule) (files program) result
IsAnswered files (Hunted range seek name program) rose result = IsHunted rose range seek name (files program) result
IsAnswered files (Bare alone trace) rose result = IsBare rose alone (files trace) result
IsAnswered files (CheckedProgram name program) rose result = IsChecked rose name (files program) result
IsAnswered files (CheckedSchedule name schedule_name program schedule) rose result =
    IsCheckedUnder rose name schedule_name (files program) (files schedule) result
IsAnswered files (Why code) rose result = Tells (why_answer code (entry_of code)) result
IsAnswered files (Help text) rose result = Tells (help_answer text) result

-- there are texts of the named files of which a form is answered so
abbrev pub IsAnsweredOverTexts : Form → Type 0 → Result Written Refusal → Type 0
IsAnsweredOverTexts form rose result =
    (program : List ℕ) × (schedule : List ℕ) × IsAnswered (holding program schedule) (over_holding form) rose result
