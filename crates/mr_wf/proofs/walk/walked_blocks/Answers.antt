use Rattle.mr_wf.proofs.Common.{◌≤◌, ◌^◌, length, sym, subst, arith, err_from_is_err_and, Block, surroundings_of, each_walked, walked_block}
use Rattle.mr_wf.proofs.GivesLaws.{thing_goes_on, thing_stops, things_done}
use Rattle.mr_wf.proofs.walk.walked_blocks.Goals as goal

pub walked_block-requires : goal.walked_block-requires
walked_block-requires c = subst (λ (b : Block). length b.stmts ≤ 2 ^ 20) (sym c.index-blocks-k.is) (c.requires.short c.loop-k.k c.index-blocks-k.result (omega arith))

pub returns-in_err-walked_block : goal.returns-in_err-walked_block
returns-in_err-walked_block c =
    let walk = walked_block c.args.inside.n c.args.inside.function.now (surroundings_of c.args.inside.at) in
    let p = err_from_is_err_and c.from_residual.result c.from_residual.ensures.1 in
    rw (p.1, p.2) (thing_stops walk c.args.blocks.now c.loop-k.k (each_walked walk 0 c.args.blocks.now) c.loop-k.invariant
    c.in_err-walked_block.field-0.0 c.index-blocks-k.result (omega arith) c.index-blocks-k.is c.in_err-walked_block.ensures)

pub loop-k-preserved : goal.loop-k-preserved
loop-k-preserved c =
    let walk = walked_block c.args.inside.n c.args.inside.function.now (surroundings_of c.args.inside.at) in
    thing_goes_on walk c.args.blocks.now c.loop-k.k (each_walked walk 0 c.args.blocks.now) c.loop-k.invariant c.index-blocks-k.result (omega arith) c.index-blocks-k.is c.in_ok-walked_block.ensures

pub returns : goal.returns
returns c =
    let walk = walked_block c.args.inside.n c.args.inside.function.now (surroundings_of c.args.inside.at) in
    things_done walk c.args.blocks.now c.loop-k.k (each_walked walk 0 c.args.blocks.now) c.loop-k.invariant (omega arith)
