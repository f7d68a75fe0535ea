use Rattle.mr_wf.proofs.Common.{sym, subst, None, judged_global, placed, Walks}
use Rattle.mr_typing.specs.declared.fault.Item.TheVariants.{Static}
use Rattle.mr_wf.proofs.GivesLaws.{placed_walks}
use Rattle.mr_wf.proofs.walk.walked_global.Goals as goal

pub returns : goal.returns
returns c =
    let judged = judged_global c.args.sizes.now c.args.global.now in
    subst (λ r. Walks r (placed (Static c.args.n) (None) (0) judged)) (sym c.placed.ensures) (placed_walks (Static c.args.n) (None) (0) c.judged_global.result judged c.judged_global.ensures)
