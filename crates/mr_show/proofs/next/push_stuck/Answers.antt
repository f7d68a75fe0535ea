use Rattle.mr_show.proofs.Common.{codes}
use Rattle.mr_next.specs.Texts.{threads_text}
use Rattle.mr_next.proofs.Appended.{last_behind}
use Rattle.mr_show.proofs.next.push_stuck.Goals as goal

pub returns : goal.returns
returns c =
    let told = threads_text c.args.p.now c.args.positions.now c.args.prospects.now in
    last_behind c.push_prospects.result c.args.out.now.items (codes "no thread can go on\n") told _ _
    c.in_ok-extend_from_slice.ensures.items c.push_prospects.ensures
