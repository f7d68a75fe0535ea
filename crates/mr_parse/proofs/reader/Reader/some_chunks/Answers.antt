use Rattle.mr_parse.proofs.Common.{sym, arith, err_from_is_err_and, chunk_form, chunks_form, read}
use Rattle.mr_parse.proofs.Walk.LoopLaws.{comma_pushed_goes_on, comma_pushed_stops, comma_is_done, comma_is_past}
use Rattle.mr_parse.proofs.reader.Reader.some_chunks.Goals as goal

pub returns-then-not-is_next : goal.returns-then-not-is_next
returns-then-not-is_next c =
    comma_is_done c.args.room c.args.scope.now (λ k. chunk_form) c.loop.chunks c.left-most.result c.loop.counter c.loop.self (read c.args.room c.args.scope.now chunks_form c.args.self.now) c.loop.invariant (sym c.if-not-is_next.ensures)

pub returns-in_err-chunks : goal.returns-in_err-chunks
returns-in_err-chunks c =
    let p = err_from_is_err_and c.from_residual-in_err-chunks.result c.from_residual-in_err-chunks.ensures.1 in
    rw (p.1, p.2) (comma_pushed_stops c.args.room c.args.scope.now (λ k. chunk_form) c.loop.chunks c.left-most.result c.loop.counter c.loop.self (read c.args.room c.args.scope.now chunks_form c.args.self.now) c.loop.invariant
    c.chunk-in-loop.result c.expect.new.self c.chunk-in-loop.new.self c.in_err-chunks.field-0.0 (omega arith) (sym c.if-not-is_next.ensures) c.in_ok-expect.ensures c.chunk-in-loop.ensures c.in_err-chunks.ensures)

pub loop-preserved : goal.loop-preserved
loop-preserved c =
    comma_pushed_goes_on c.args.room c.args.scope.now (λ k. chunk_form) c.loop.chunks c.left-most.result c.loop.counter c.loop.self (read c.args.room c.args.scope.now chunks_form c.args.self.now) c.loop.invariant
    c.chunk-in-loop.result c.expect.new.self c.chunk-in-loop.new.self _ (omega arith) (sym c.if-not-is_next.ensures) c.in_ok-expect.ensures c.chunk-in-loop.ensures c.in_ok-chunks.ensures

pub returns : goal.returns
returns c =
    comma_is_past c.args.room c.args.scope.now (λ k. chunk_form) c.loop.chunks c.left-most.result c.loop.counter c.loop.self (read c.args.room c.args.scope.now chunks_form c.args.self.now) c.loop.invariant (omega arith)
