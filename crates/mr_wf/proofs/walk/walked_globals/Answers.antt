use Rattle.mr_wf.proofs.Common.{arith, err_from_is_err_and, each_walked, walked_global}
use Rattle.mr_wf.proofs.GivesLaws.{thing_goes_on, thing_stops, things_done}
use Rattle.mr_wf.proofs.walk.walked_globals.Goals as goal

pub returns-in_err-walked_global : goal.returns-in_err-walked_global
returns-in_err-walked_global c =
    let walk = walked_global c.args.sizes.now in
    let p = err_from_is_err_and c.from_residual.result c.from_residual.ensures.1 in
    rw (p.1, p.2) (thing_stops walk c.args.globals.now c.loop-n.n (each_walked walk 0 c.args.globals.now) c.loop-n.invariant
    c.in_err-walked_global.field-0.0 c.index-globals-n.result (omega arith) c.index-globals-n.is c.in_err-walked_global.ensures)

pub loop-n-preserved : goal.loop-n-preserved
loop-n-preserved c =
    let walk = walked_global c.args.sizes.now in
    thing_goes_on walk c.args.globals.now c.loop-n.n (each_walked walk 0 c.args.globals.now) c.loop-n.invariant c.index-globals-n.result (omega arith) c.index-globals-n.is c.in_ok-walked_global.ensures

pub returns : goal.returns
returns c =
    let walk = walked_global c.args.sizes.now in
    things_done walk c.args.globals.now c.loop-n.n (each_walked walk 0 c.args.globals.now) c.loop-n.invariant (omega arith)
