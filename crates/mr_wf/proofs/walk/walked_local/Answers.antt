use Rattle.mr_wf.proofs.Common.{sym, subst, None, sound_type, placed, Walks}
use Rattle.mr_typing.specs.declared.fault.Item.TheVariants.{Function as InFunction}
use Rattle.mr_wf.proofs.GivesLaws.{placed_walks}
use Rattle.mr_wf.proofs.walk.walked_local.Goals as goal

pub returns : goal.returns
returns c =
    let judged = sound_type c.args.local.now.ty in
    subst (λ r. Walks r (placed (InFunction c.args.n) (None) (c.args.place) judged)) (sym c.placed.ensures) (placed_walks (InFunction c.args.n) (None) (c.args.place) c.sound_type.result judged c.sound_type.ensures)
