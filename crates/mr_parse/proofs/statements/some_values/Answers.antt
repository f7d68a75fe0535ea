use Rattle.mr_parse.proofs.Common.{sym, arith, err_from_is_err_and, Part, TheValue, values_form, read}
use Rattle.mr_parse.proofs.Walk.LoopLaws.{comma_pushed_goes_on, comma_pushed_stops, comma_is_done, comma_is_past}
use Rattle.mr_parse.proofs.statements.some_values.Goals as goal

pub returns-then-not-is_next : goal.returns-then-not-is_next
returns-then-not-is_next c =
    comma_is_done c.args.room c.args.scope.now (λ k. Part TheValue) c.loop.values c.left-most.result c.loop.counter c.loop.reader (read c.args.room c.args.scope.now values_form c.args.reader.now) c.loop.invariant (sym c.if-not-is_next.ensures)

pub returns-in_err-values : goal.returns-in_err-values
returns-in_err-values c =
    let p = err_from_is_err_and c.from_residual-in_err-values.result c.from_residual-in_err-values.ensures.1 in
    rw (p.1, p.2) (comma_pushed_stops c.args.room c.args.scope.now (λ k. Part TheValue) c.loop.values c.left-most.result c.loop.counter c.loop.reader (read c.args.room c.args.scope.now values_form c.args.reader.now) c.loop.invariant
    c.value-in-loop.result c.expect.new.self c.value-in-loop.new.self c.in_err-values.field-0.0 (omega arith) (sym c.if-not-is_next.ensures) c.in_ok-expect.ensures c.value-in-loop.ensures c.in_err-values.ensures)

pub loop-preserved : goal.loop-preserved
loop-preserved c =
    comma_pushed_goes_on c.args.room c.args.scope.now (λ k. Part TheValue) c.loop.values c.left-most.result c.loop.counter c.loop.reader (read c.args.room c.args.scope.now values_form c.args.reader.now) c.loop.invariant
    c.value-in-loop.result c.expect.new.self c.value-in-loop.new.self _ (omega arith) (sym c.if-not-is_next.ensures) c.in_ok-expect.ensures c.value-in-loop.ensures c.in_ok-values.ensures

pub returns : goal.returns
returns c =
    comma_is_past c.args.room c.args.scope.now (λ k. Part TheValue) c.loop.values c.left-most.result c.loop.counter c.loop.reader (read c.args.room c.args.scope.now values_form c.args.reader.now) c.loop.invariant (omega arith)
