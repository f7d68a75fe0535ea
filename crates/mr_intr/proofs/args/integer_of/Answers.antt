use Rattle.std.proofs.Common.{◌∙◌, Some, ap, sym}
use Rattle.std.proofs.lemmas.Option.{same_Some}
use Rattle.mr_ast.specs.declared.types.Ty.{Ty}
use Rattle.mr_ast.specs.declared.types.Ty.TheVariants as ty
use Rattle.std.specs.Option.{option_copied}
use Rattle.mr_intr.proofs.args.integer_of.Goals as goal

pub number_type-requires : goal.number_type-requires
number_type-requires c = (c.requires.int, c.known.ensures ∙ same_Some c.in-Some.t.now (ty.Int c.requires.int) (sym (ap option_copied c.in-Some.is) ∙ c.requires.is))

pub returns : goal.returns
returns c = ap option_copied c.in-Some.is ∙ ap (λ (t : Ty). Some t) (sym c.known.ensures ∙ c.number_type.ensures)
