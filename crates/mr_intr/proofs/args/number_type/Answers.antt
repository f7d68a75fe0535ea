use Rattle.std.proofs.Common.{◌∙◌, ap, sym}
use Rattle.mr_ast.specs.declared.types.Ty.TheVariants as ty
use Rattle.mr_typing.specs.Known.{ty_of}
use Rattle.mr_typing.specs.Types.{integer_in, integer_of}
use Rattle.mr_typing.proofs.KindLaws.{integer_is}
use Rattle.mr_intr.proofs.args.number_type.Goals as goal

pub returns : goal.returns
returns c = integer_is (ty_of c.args.t) c.in-Some.int (sym c.in-Some.ensures)

pub unreachable-requires : goal.unreachable-requires
unreachable-requires c =
    let (i, is) = c.requires in
    let found = c.in-None.ensures ∙ ap integer_of is ∙ ap integer_in (ty.outs-Int i) in
    absurd (cc)
