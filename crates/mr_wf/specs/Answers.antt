-- What checking a program answers.
use Rattle.std.specs.Prelude.{◌≡◌, Result, Ok, Err}
use Rattle.mr_ast.specs.declared.program.Program.{Program}
use Rattle.mr_typing.specs.Walk.{FirstBroken, WellFormed}
use Rattle.mr_wf.specs.declared.fault.WfFault.{WfFault}
use Rattle.mr_wf.specs.declared.fault.WfFault.TheVariants as fault

-- The program as it was, where it breaks no rule; else the first broken rule, and the program as it was; or memory ran
-- out.
abbrev pub IsCheck : Program → Result Program WfFault → Type 0
IsCheck p (Ok q) = (q ≡ p) × WellFormed p
IsCheck p (Err (fault.Form f q)) = (q ≡ p) × FirstBroken p f
IsCheck p (Err fault.Memory) = Unit {0}
