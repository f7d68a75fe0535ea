use Rattle.mr_parse.proofs.Common.{◌≡◌, ◌+◌, suc, sym, subst, arith, codes, err_from_is_err_and, block_form, blocks_form, other_than, Gives, read}
use Rattle.mr_parse.proofs.Walk.LoopLaws.{pushed_goes_on, pushed_stops, is_done, is_past}
use Rattle.mr_parse.proofs.program.blocks.Goals as goal

pub returns-then-not-is_other : goal.returns-then-not-is_other
returns-then-not-is_other c =
    is_done (λ k. read c.args.room c.args.scope.now (block_form (suc k))) (other_than (codes "}")) c.loop-k.blocks c.turns-most.result c.loop-k.k c.loop-k.reader (read c.args.room c.args.scope.now blocks_form c.args.reader.now) c.loop-k.invariant (sym c.if-not-is_other.ensures)

pub returns-in_err-blocks : goal.returns-in_err-blocks
returns-in_err-blocks c =
    let p = err_from_is_err_and c.from_residual-in_err-blocks.result c.from_residual-in_err-blocks.ensures.1 in
    let next : c.loop-k.k + 1 ≡ suc c.loop-k.k = omega arith in
    let given = subst (λ n. Gives (λ x. (x, c.block-in-loop-k.new.reader)) c.block-in-loop-k.result (read c.args.room c.args.scope.now (block_form n) c.loop-k.reader)) next c.block-in-loop-k.ensures in
    rw (p.1, p.2) (pushed_stops (λ k. read c.args.room c.args.scope.now (block_form (suc k))) (other_than (codes "}")) c.loop-k.blocks c.turns-most.result c.loop-k.k c.loop-k.reader (read c.args.room c.args.scope.now blocks_form c.args.reader.now) c.loop-k.invariant
    c.block-in-loop-k.result c.block-in-loop-k.new.reader c.in_err-blocks.field-0.0 (omega arith) (sym c.if-not-is_other.ensures) given c.in_err-blocks.ensures)

pub loop-k-preserved : goal.loop-k-preserved
loop-k-preserved c =
    let next : c.loop-k.k + 1 ≡ suc c.loop-k.k = omega arith in
    let given = subst (λ n. Gives (λ x. (x, c.block-in-loop-k.new.reader)) c.block-in-loop-k.result (read c.args.room c.args.scope.now (block_form n) c.loop-k.reader)) next c.block-in-loop-k.ensures in
    pushed_goes_on (λ k. read c.args.room c.args.scope.now (block_form (suc k))) (other_than (codes "}")) c.loop-k.blocks c.turns-most.result c.loop-k.k c.loop-k.reader (read c.args.room c.args.scope.now blocks_form c.args.reader.now) c.loop-k.invariant
    c.block-in-loop-k.result c.block-in-loop-k.new.reader _ (omega arith) (sym c.if-not-is_other.ensures) given c.in_ok-blocks.ensures

pub returns : goal.returns
returns c =
    is_past (λ k. read c.args.room c.args.scope.now (block_form (suc k))) (other_than (codes "}")) c.loop-k.blocks c.turns-most.result c.loop-k.k c.loop-k.reader (read c.args.room c.args.scope.now blocks_form c.args.reader.now) c.loop-k.invariant (omega arith)
