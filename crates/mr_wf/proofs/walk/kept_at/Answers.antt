use Rattle.mr_wf.proofs.Common.{sym, subst, None, kept, placed, Walks}
use Rattle.mr_wf.proofs.GivesLaws.{placed_walks}
use Rattle.mr_wf.proofs.walk.kept_at.Goals as goal

pub returns : goal.returns
returns c =
    let judged = kept c.args.rule c.args.test in
    subst (λ r. Walks r (placed (c.args.item) (None) (0) judged)) (sym c.placed.ensures) (placed_walks (c.args.item) (None) (0) c.kept.result judged c.kept.ensures)
