use Rattle.mr_wf.proofs.Common.{sym, subst, arith, err_from_is_err_and, IsShort, each_walked, walked_function}
use Rattle.mr_wf.proofs.GivesLaws.{thing_goes_on, thing_stops, things_done}
use Rattle.mr_wf.proofs.walk.walked_functions.Goals as goal

pub walked_function-requires : goal.walked_function-requires
walked_function-requires c = subst IsShort (sym c.index-functions-n.is) (c.requires.short c.loop-n.n c.index-functions-n.result (omega arith))

pub returns-in_err-walked_function : goal.returns-in_err-walked_function
returns-in_err-walked_function c =
    let walk = walked_function c.args.sizes.now in
    let p = err_from_is_err_and c.from_residual.result c.from_residual.ensures.1 in
    rw (p.1, p.2) (thing_stops walk c.args.functions.now c.loop-n.n (each_walked walk 0 c.args.functions.now) c.loop-n.invariant
    c.in_err-walked_function.field-0.0 c.index-functions-n.result (omega arith) c.index-functions-n.is c.in_err-walked_function.ensures)

pub loop-n-preserved : goal.loop-n-preserved
loop-n-preserved c =
    let walk = walked_function c.args.sizes.now in
    thing_goes_on walk c.args.functions.now c.loop-n.n (each_walked walk 0 c.args.functions.now) c.loop-n.invariant c.index-functions-n.result (omega arith) c.index-functions-n.is c.in_ok-walked_function.ensures

pub returns : goal.returns
returns c =
    let walk = walked_function c.args.sizes.now in
    things_done walk c.args.functions.now c.loop-n.n (each_walked walk 0 c.args.functions.now) c.loop-n.invariant (omega arith)
