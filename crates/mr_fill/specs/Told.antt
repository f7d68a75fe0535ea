-- The schedule that an order becomes, and where the order can't go on, as they are told.
use Rattle.std.specs.Prelude.{ℕ, List, [], ◌++◌, codes, decimal, Option, None, Some, Result, Ok, Err}
use Rattle.mr_ast.specs.declared.program.Program.{Program}
use Rattle.mr_sched.specs.Reading.{Fault}
use Rattle.mr_sched.specs.Rules.{name_by_code}
use Rattle.mr_sched.specs.Spelling.{text_of}
use Rattle.mr_fill.specs.Filling.{filled}
use Rattle.mr_fill.specs.Orders.{order_of}
use Rattle.mr_fill.specs.declared.filling.Filled.{Filled}
use Rattle.mr_fill.specs.declared.filling.Halt.{Halt}
use Rattle.mr_fill.specs.declared.order.Turn.{Turn}
use Rattle.mr_fill.specs.declared.told.FilledText.{FilledText}

-- `# line LINE can't go on: CODE NAME`, which is a comment of an order
abbrev pub halt_line : Halt → List ℕ
halt_line halt =
    codes "# line " ++ decimal halt.line ++ codes " can't go on: " ++ decimal halt.code ++ codes " "
    ++ name_by_code halt.code ++ codes "\n"

abbrev pub halt_text : Option Halt → List ℕ
halt_text None = []
halt_text (Some halt) = halt_line halt

-- THE TEXTS of a schedule that an order became: the schedule in version 1, and where the order can't go on
abbrev pub text_by : Filled → FilledText
text_by f = record { schedule = text_of f.schedule; halt = halt_text f.halt }

-- the same of an order, or why there is none
abbrev pub texts_from : Program → Result (List Turn) Fault → Result FilledText Fault
texts_from p (Ok order) = Ok (text_by (filled p order))
texts_from p (Err fault) = Err fault

-- THE ANSWER to `fill P O`, from a program and the text of an order
abbrev pub texts_of : Program → List ℕ → Result FilledText Fault
texts_of p text = texts_from p (order_of text)
