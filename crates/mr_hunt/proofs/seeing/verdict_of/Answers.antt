use Rattle.mr_hunt.proofs.SeenLaws.{verdict_is}
use Rattle.mr_hunt.proofs.seeing.verdict_of.Goals as goal

pub returns : goal.returns
returns c =
    verdict_is c.args.p.now c.args.number c.args.most c.in_ok-drawn.drawn.schedule c.in_ok-drawn.drawn.machine
    c.in_ok-drawn.ensures.schedule c.in_ok-drawn.ensures.run c.verdict.result c.verdict.ensures
