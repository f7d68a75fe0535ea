use Rattle.mr_wf.proofs.Common.{sym, subst, Some, judged_stmt, placed, Walks, surroundings_of}
use Rattle.mr_typing.specs.declared.fault.Item.TheVariants.{Function as InFunction}
use Rattle.mr_wf.proofs.GivesLaws.{placed_walks}
use Rattle.mr_wf.proofs.walk.walked_stmt.Goals as goal

pub returns : goal.returns
returns c =
    let judged = judged_stmt c.args.inside.function.now (surroundings_of c.args.inside.at) c.args.stmt.now in
    subst (λ r. Walks r (placed (InFunction c.args.inside.n) (Some (record { 0 = c.args.k })) (c.args.place) judged)) (sym c.placed.ensures) (placed_walks (InFunction c.args.inside.n) (Some (record { 0 = c.args.k })) (c.args.place) c.judged_stmt-judged.result judged c.judged_stmt-judged.ensures)
