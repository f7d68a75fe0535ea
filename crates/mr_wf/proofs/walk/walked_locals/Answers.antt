use Rattle.mr_wf.proofs.Common.{arith, err_from_is_err_and, each_walked, walked_local}
use Rattle.mr_wf.proofs.GivesLaws.{thing_goes_on, thing_stops, things_done}
use Rattle.mr_wf.proofs.walk.walked_locals.Goals as goal

pub returns-in_err-walked_local : goal.returns-in_err-walked_local
returns-in_err-walked_local c =
    let walk = walked_local c.args.n in
    let p = err_from_is_err_and c.from_residual.result c.from_residual.ensures.1 in
    rw (p.1, p.2) (thing_stops walk c.args.locals.now c.loop-place.place (each_walked walk 0 c.args.locals.now) c.loop-place.invariant
    c.in_err-walked_local.field-0.0 c.index-locals-place.result (omega arith) c.index-locals-place.is c.in_err-walked_local.ensures)

pub loop-place-preserved : goal.loop-place-preserved
loop-place-preserved c =
    let walk = walked_local c.args.n in
    thing_goes_on walk c.args.locals.now c.loop-place.place (each_walked walk 0 c.args.locals.now) c.loop-place.invariant c.index-locals-place.result (omega arith) c.index-locals-place.is c.in_ok-walked_local.ensures

pub returns : goal.returns
returns c =
    let walk = walked_local c.args.n in
    things_done walk c.args.locals.now c.loop-place.place (each_walked walk 0 c.args.locals.now) c.loop-place.invariant (omega arith)
