use Rattle.std.specs.Prelude.{codes}
use Rattle.mr_next.proofs.Appended.{last_behind}
use Rattle.mr_refusals.specs.Texts.{going_told}
use Rattle.mr_refusals.proofs.texts.push_text_end.Goals as goal

pub returns : goal.returns
returns c =
    last_behind c.push_going.result c.args.out.now.items (codes "the text ends here\n")
    (going_told c.args.fault c.args.text.now) _ _ c.in_ok-extend_from_slice.ensures.items c.push_going.ensures
