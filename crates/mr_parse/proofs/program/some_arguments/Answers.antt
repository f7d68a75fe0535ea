use Rattle.mr_parse.proofs.Common.{sym, arith, err_from_is_err_and, local_use, args_form, read}
use Rattle.mr_parse.proofs.Walk.LoopLaws.{comma_pushed_goes_on, comma_pushed_stops, comma_is_done, comma_is_past}
use Rattle.mr_parse.proofs.program.some_arguments.Goals as goal

pub returns-then-not-is_next : goal.returns-then-not-is_next
returns-then-not-is_next c =
    comma_is_done c.args.room c.args.scope.now (λ k. local_use) c.loop.args c.left-most.result c.loop.counter c.loop.reader (read c.args.room c.args.scope.now args_form c.args.reader.now) c.loop.invariant (sym c.if-not-is_next.ensures)

pub returns-in_err-args : goal.returns-in_err-args
returns-in_err-args c =
    let p = err_from_is_err_and c.from_residual-in_err-args.result c.from_residual-in_err-args.ensures.1 in
    rw (p.1, p.2) (comma_pushed_stops c.args.room c.args.scope.now (λ k. local_use) c.loop.args c.left-most.result c.loop.counter c.loop.reader (read c.args.room c.args.scope.now args_form c.args.reader.now) c.loop.invariant
    c.local-in-loop.result c.expect.new.self c.local-in-loop.new.self c.in_err-args.field-0.0 (omega arith) (sym c.if-not-is_next.ensures) c.in_ok-expect.ensures c.local-in-loop.ensures c.in_err-args.ensures)

pub loop-preserved : goal.loop-preserved
loop-preserved c =
    comma_pushed_goes_on c.args.room c.args.scope.now (λ k. local_use) c.loop.args c.left-most.result c.loop.counter c.loop.reader (read c.args.room c.args.scope.now args_form c.args.reader.now) c.loop.invariant
    c.local-in-loop.result c.expect.new.self c.local-in-loop.new.self _ (omega arith) (sym c.if-not-is_next.ensures) c.in_ok-expect.ensures c.local-in-loop.ensures c.in_ok-args.ensures

pub returns : goal.returns
returns c =
    comma_is_past c.args.room c.args.scope.now (λ k. local_use) c.loop.args c.left-most.result c.loop.counter c.loop.reader (read c.args.room c.args.scope.now args_form c.args.reader.now) c.loop.invariant (omega arith)
