use Rattle.mr_parse.proofs.Common.{sym, arith, codes, err_from_is_err_and, item_form, items_form, other_than, read}
use Rattle.mr_parse.proofs.Walk.LoopLaws.{goes_on, stops, is_done, is_past}
use Rattle.mr_parse.proofs.program.items.Goals as goal

pub returns-then-not-is_other : goal.returns-then-not-is_other
returns-then-not-is_other c =
    is_done (λ k. read c.args.room c.args.scope.now item_form) (other_than (codes "}")) c.loop.items c.left-most.result c.loop.counter c.loop.reader (read c.args.room c.args.scope.now items_form c.args.reader.now) c.loop.invariant (sym c.if-not-is_other.ensures)

pub returns-in_err-item : goal.returns-in_err-item
returns-in_err-item c =
    let p = err_from_is_err_and c.from_residual.result c.from_residual.ensures.1 in
    rw (p.1, p.2) (stops (λ k. read c.args.room c.args.scope.now item_form) (other_than (codes "}")) c.loop.items c.left-most.result c.loop.counter c.loop.reader (read c.args.room c.args.scope.now items_form c.args.reader.now) c.loop.invariant
    c.in_err-item.field-0.0 (omega arith) (sym c.if-not-is_other.ensures) c.in_err-item.ensures)

pub loop-preserved : goal.loop-preserved
loop-preserved c =
    rw c.in_ok-push.ensures.ok (goes_on (λ k. read c.args.room c.args.scope.now item_form) (other_than (codes "}")) c.loop.items c.left-most.result c.loop.counter c.loop.reader (read c.args.room c.args.scope.now items_form c.args.reader.now) c.loop.invariant
    c.in_ok-item.field-0 c.item.new.reader (omega arith) (sym c.if-not-is_other.ensures) c.in_ok-item.ensures)

pub returns : goal.returns
returns c =
    is_past (λ k. read c.args.room c.args.scope.now item_form) (other_than (codes "}")) c.loop.items c.left-most.result c.loop.counter c.loop.reader (read c.args.room c.args.scope.now items_form c.args.reader.now) c.loop.invariant (omega arith)
