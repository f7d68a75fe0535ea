-- What is said of a program by itself, and of a schedule of it.
use Rattle.std.specs.Prelude.{ℕ, ◌^◌, nat_lt, if◌then◌else◌, List, length, Option, None, Some}
use Rattle.mr_input.specs.declared.refusal.Refusal.TheVariants as refusal
use Rattle.mr_input.specs.Answer.{Answer, refused}
use Rattle.mr_refusals.specs.Answers.{program_answer, schedule_answer}

-- what is said of the text of a program, unless it is longer than one may be
abbrev pub unless_long : List ℕ → Answer → Answer
unless_long text said = if nat_lt (2 ^ 20) (length text) then refused (refusal.Text 1 1 3) else said

-- the same of that of a schedule
abbrev pub unless_long_schedule : List ℕ → Answer → Answer
unless_long_schedule text said = if nat_lt (2 ^ 26) (length text) then refused (refusal.Schedule 1 52 None) else said

-- WHAT IS SAID OF THE PROGRAM in a file of this name, by itself: its first fault, or that it has none
abbrev pub checked_file : List ℕ → Option (List ℕ) → Answer
checked_file name None = refused refusal.ReadProgram
checked_file name (Some text) = unless_long text (program_answer name text)

-- what is said of the schedule in a file, where the text of the program was read; both files have a name
abbrev pub checked_under : List ℕ → List ℕ → List ℕ → Option (List ℕ) → Answer
checked_under name text schedule_name None = refused refusal.ReadSchedule
checked_under name text schedule_name (Some schedule) =
    unless_long_schedule schedule (schedule_answer name text schedule_name schedule)

-- WHAT IS SAID OF A SCHEDULE in one file of the program in another: the first fault of the program, or else that of the
-- schedule, or that there is none
abbrev pub checked_files : List ℕ → List ℕ → Option (List ℕ) → Option (List ℕ) → Answer
checked_files name schedule_name None schedule = refused refusal.ReadProgram
checked_files name schedule_name (Some text) schedule =
    unless_long text (checked_under name text schedule_name schedule)
