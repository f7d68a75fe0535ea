use Rattle.mr_parse.proofs.Common.{sym, arith, err_from_is_err_and, tag_form, tags_form, read}
use Rattle.mr_parse.proofs.Walk.LoopLaws.{comma_pushed_goes_on, comma_pushed_stops, comma_is_done, comma_is_past}
use Rattle.mr_parse.proofs.reader.Reader.some_tags.Goals as goal

pub returns-then-not-is_next : goal.returns-then-not-is_next
returns-then-not-is_next c =
    comma_is_done c.args.room c.args.scope.now (λ k. tag_form) c.loop.tags c.left-most.result c.loop.counter c.loop.self (read c.args.room c.args.scope.now tags_form c.args.self.now) c.loop.invariant (sym c.if-not-is_next.ensures)

pub returns-in_err-tags : goal.returns-in_err-tags
returns-in_err-tags c =
    let p = err_from_is_err_and c.from_residual-in_err-tags.result c.from_residual-in_err-tags.ensures.1 in
    rw (p.1, p.2) (comma_pushed_stops c.args.room c.args.scope.now (λ k. tag_form) c.loop.tags c.left-most.result c.loop.counter c.loop.self (read c.args.room c.args.scope.now tags_form c.args.self.now) c.loop.invariant
    c.tag-in-loop.result c.expect.new.self c.tag-in-loop.new.self c.in_err-tags.field-0.0 (omega arith) (sym c.if-not-is_next.ensures) c.in_ok-expect.ensures c.tag-in-loop.ensures c.in_err-tags.ensures)

pub loop-preserved : goal.loop-preserved
loop-preserved c =
    comma_pushed_goes_on c.args.room c.args.scope.now (λ k. tag_form) c.loop.tags c.left-most.result c.loop.counter c.loop.self (read c.args.room c.args.scope.now tags_form c.args.self.now) c.loop.invariant
    c.tag-in-loop.result c.expect.new.self c.tag-in-loop.new.self _ (omega arith) (sym c.if-not-is_next.ensures) c.in_ok-expect.ensures c.tag-in-loop.ensures c.in_ok-tags.ensures

pub returns : goal.returns
returns c =
    comma_is_past c.args.room c.args.scope.now (λ k. tag_form) c.loop.tags c.left-most.result c.loop.counter c.loop.self (read c.args.room c.args.scope.now tags_form c.args.self.now) c.loop.invariant (omega arith)
