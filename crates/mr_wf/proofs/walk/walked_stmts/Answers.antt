use Rattle.mr_wf.proofs.Common.{arith, err_from_is_err_and, surroundings_of, each_walked, walked_stmt}
use Rattle.mr_wf.proofs.GivesLaws.{thing_goes_on, thing_stops, things_done}
use Rattle.mr_wf.proofs.walk.walked_stmts.Goals as goal

pub returns-in_err-walked_stmt : goal.returns-in_err-walked_stmt
returns-in_err-walked_stmt c =
    let walk = walked_stmt c.args.inside.n c.args.inside.function.now (surroundings_of c.args.inside.at) c.args.k in
    let p = err_from_is_err_and c.from_residual.result c.from_residual.ensures.1 in
    rw (p.1, p.2) (thing_stops walk c.args.stmts.now c.loop-place.place (each_walked walk 0 c.args.stmts.now) c.loop-place.invariant
    c.in_err-walked_stmt.field-0.0 c.index-stmts-place.result (omega arith) c.index-stmts-place.is c.in_err-walked_stmt.ensures)

pub loop-place-preserved : goal.loop-place-preserved
loop-place-preserved c =
    let walk = walked_stmt c.args.inside.n c.args.inside.function.now (surroundings_of c.args.inside.at) c.args.k in
    thing_goes_on walk c.args.stmts.now c.loop-place.place (each_walked walk 0 c.args.stmts.now) c.loop-place.invariant c.index-stmts-place.result (omega arith) c.index-stmts-place.is c.in_ok-walked_stmt.ensures

pub returns : goal.returns
returns c =
    let walk = walked_stmt c.args.inside.n c.args.inside.function.now (surroundings_of c.args.inside.at) c.args.k in
    things_done walk c.args.stmts.now c.loop-place.place (each_walked walk 0 c.args.stmts.now) c.loop-place.invariant (omega arith)
