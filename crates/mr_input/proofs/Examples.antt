-- The lines of refusals and of broken rules, computed.
use Rattle.std.proofs.Common.{◌≡◌, [], ◌∷◌, Some, None, codes, refl}
use Rattle.std.specs.Fmt.{digits}
use Rattle.mr_ast.specs.declared.program.BlockKind.TheVariants.{Regular}
use Rattle.mr_ast.specs.declared.program.Function.{Function}
use Rattle.mr_ast.specs.declared.program.Program.{Program}
use Rattle.mr_ast.specs.declared.program.Term.TheVariants.{Exit}
use Rattle.mr_typing.specs.declared.fault.Item.TheVariants.{Function as InFunction}
use Rattle.mr_report.specs.Report.{line}
use Rattle.mr_input.specs.declared.refusal.Refusal.TheVariants.{Schedule, Text, Trace}
use Rattle.mr_input.specs.Form.{form_line}
use Rattle.mr_input.specs.Refusals.{refusal_text}

with_the_earlier : refusal_text (Schedule 5 64 (Some (record { thread = 0; count = 2 }))) ≡ line (codes "schedule 5 64 Reused 0 2")
unfolding digits
with_the_earlier = refl

at_a_line : refusal_text (Schedule 3 51 None) ≡ line (codes "schedule 3 51 BadLine")
unfolding digits
at_a_line = refl

of_a_text : refusal_text (Text 1 16 4) ≡ line (codes "text 1 16 4 Unexpected")
unfolding digits
of_a_text = refl

of_a_trace : refusal_text (Trace 8 72) ≡ line (codes "trace 8 72 Truncated")
unfolding digits
of_a_trace = refl

-- ---- broken rules

-- a function of this name and nothing else, and the program of it
abbrev empty_function : Function
empty_function = record { name = 0; args = []; ret = record { 0 = 0 }; locals = []; blocks = record { name = 1; kind = Regular; stmts = []; term = Exit } ∷ [] }

abbrev empty_program : Program
empty_program = record { edition = 1; globals = []; functions = empty_function ∷ []; names = codes "main" ∷ codes "b0" ∷ []; start = record { 0 = 0 } }

of_a_function : form_line empty_program (record { item = InFunction 0; block = None; place = 0; code = 45 }) ≡ line (codes "form main - 0 45 MainForm")
unfolding digits
of_a_function = refl

of_a_block : form_line empty_program (record { item = InFunction 0; block = Some (record { 0 = 0 }); place = 0; code = 35 }) ≡ line (codes "form main b0 0 35 ConstRange")
unfolding digits
of_a_block = refl
