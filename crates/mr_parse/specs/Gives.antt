-- What parsing answers, against what the text gives.
use Rattle.std.specs.Prelude.{◌≡◌, Result, Ok, Err}
use Rattle.mr_ast.specs.declared.program.Program.{Program}
use Rattle.mr_lex.specs.declared.token.TextFault.{TextFault}
use Rattle.mr_parse.specs.declared.fault.ParseFault.{ParseFault}
use Rattle.mr_parse.specs.declared.fault.ParseFault.TheVariants as parse_fault

-- What parsing answers is what the text gives, unless memory ran out.
abbrev pub ParseGives : Result Program ParseFault → Result Program TextFault → Type 0
ParseGives (Ok p) read = read ≡ Ok p
ParseGives (Err (parse_fault.Text fault)) read = read ≡ Err fault
ParseGives (Err parse_fault.Memory) read = Unit {0}
