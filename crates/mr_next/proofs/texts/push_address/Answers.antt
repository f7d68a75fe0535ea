use Rattle.mr_next.specs.Texts.{for_text, size_text}
use Rattle.mr_next.proofs.Appended.{last_behind}
use Rattle.mr_next.proofs.texts.push_address.Goals as goal

pub returns : goal.returns
returns c =
    last_behind c.push_for.result c.args.out.now.items (size_text c.args.size c.args.align)
    (for_text c.args.p.now c.args.here c.args.name) _ _ c.in_ok-push_size.ensures c.push_for.ensures
