-- What an order of threads becomes, as it is told.
use Rattle.std.specs.Prelude.{ℕ, ◌==◌, if◌then◌else◌, List, length, Option, None, Some, Result, Ok, Err}
use Rattle.mr_ast.specs.declared.program.Program.{Program}
use Rattle.mr_sched.specs.Reading.{Fault}
use Rattle.mr_input.specs.declared.refusal.Refusal.{Refusal}
use Rattle.mr_input.specs.declared.refusal.Refusal.TheVariants as refusal
use Rattle.mr_input.specs.Answer.{Answer, told}
use Rattle.mr_fill.specs.Told.{texts_of}
use Rattle.mr_fill.specs.declared.told.FilledText.{FilledText}
use Rattle.mr_show.specs.declared.form.Filling.{Filling}
use Rattle.mr_show.specs.declared.form.Filling.TheVariants.{Halt, Schedule}

-- the text that is wanted: the schedule, or where the order can't go on
abbrev pub wanted_text : Filling → FilledText → List ℕ
wanted_text Schedule t = t.schedule
wanted_text Halt t = t.halt

-- with status 1 where it can't go on
abbrev pub halt_status : List ℕ → ℕ
halt_status halt = if length halt == 0 then 0 else 1

abbrev pub filled_answer : Filling → FilledText → Answer
filled_answer filling t = record { text = wanted_text filling t; status = halt_status t.halt }

-- a fault of an order's text is told as one of a schedule's
abbrev pub unless_bad : Result FilledText Fault → Result FilledText Refusal
unless_bad (Ok t) = Ok t
unless_bad (Err f) = Err (refusal.Schedule f.line f.code None)

-- WHAT THE ORDER in a text becomes for a program, or the text's first fault
abbrev pub order_answer : Filling → Program → List ℕ → Answer
order_answer filling p text = told (filled_answer filling) (unless_bad (texts_of p text))

-- the order in a file, whose text is read as that of a schedule is
abbrev pub order_in : Option (List ℕ) → Result (List ℕ) Refusal
order_in None = Err refusal.ReadSchedule
order_in (Some text) = Ok text
