use Rattle.mr_parse.proofs.Common.{◌≡◌, ◌-◌, refl, sym, arith, err_from_is_err_and, Part, TheValue, with_all, read, read_outside}
use Rattle.std.proofs.Common.{length}
use Rattle.mr_ast.specs.ValueGrammar.{begins_postfix, more_values_form, postfix_form, postfixes_form}
use Rattle.mr_parse.specs.Postfixes.{postfix_of}
use Rattle.mr_parse.proofs.Walk.PostfixLaws.{postfix_goes_on, postfix_stops, postfix_is_done, postfix_is_past}
use Rattle.mr_parse.proofs.Walk.LoopLaws.{comma_pushed_goes_on, comma_pushed_stops, comma_is_done, comma_is_past}
use Rattle.mr_parse.proofs.reader.Reader.+values.Goals as goal

pub more_values-returns-then-not-is_next : goal.more_values-returns-then-not-is_next
more_values-returns-then-not-is_next t c =
    comma_is_done c.args.room c.args.scope.now (λ k. Part TheValue) c.loop.values c.left-most.result c.loop.counter c.loop.self (read c.args.room c.args.scope.now more_values_form c.args.self.now) c.loop.invariant (sym c.if-not-is_next.ensures)

pub more_values-returns-in_err-values : goal.more_values-returns-in_err-values
more_values-returns-in_err-values t c =
    let p = err_from_is_err_and c.from_residual-in_err-values.result c.from_residual-in_err-values.ensures.1 in
    rw (p.1, p.2) (comma_pushed_stops c.args.room c.args.scope.now (λ k. Part TheValue) c.loop.values c.left-most.result c.loop.counter c.loop.self (read c.args.room c.args.scope.now more_values_form c.args.self.now) c.loop.invariant
    c.value.result c.expect.new.self c.value.new.self c.in_err-values.field-0.0 (omega arith) (sym c.if-not-is_next.ensures) c.in_ok-expect.ensures c.value.ensures c.in_err-values.ensures)

pub more_values-loop-preserved : goal.more_values-loop-preserved
more_values-loop-preserved t c =
    comma_pushed_goes_on c.args.room c.args.scope.now (λ k. Part TheValue) c.loop.values c.left-most.result c.loop.counter c.loop.self (read c.args.room c.args.scope.now more_values_form c.args.self.now) c.loop.invariant
    c.value.result c.expect.new.self c.value.new.self _ (omega arith) (sym c.if-not-is_next.ensures) c.in_ok-expect.ensures c.value.ensures c.in_ok-values.ensures

pub more_values-returns : goal.more_values-returns
more_values-returns t c =
    comma_is_past c.args.room c.args.scope.now (λ k. Part TheValue) c.loop.values c.left-most.result c.loop.counter c.loop.self (read c.args.room c.args.scope.now more_values_form c.args.self.now) c.loop.invariant (omega arith)

pub postfixes-loop-k-init : goal.postfixes-loop-k-init
unfolding postfixes_form
postfixes-loop-k-init t c = let all : c.left-most.result - 0 ≡ length c.args.self.now = omega (arith, c.left-most.ensures) in rw all refl

pub postfixes-returns-then-not-is_postfix_next : goal.postfixes-returns-then-not-is_postfix_next
postfixes-returns-then-not-is_postfix_next t c =
    postfix_is_done (λ k. read_outside c.args.room c.args.scope.now (postfix_form k)) begins_postfix c.loop-k.place c.left-most.result c.loop-k.k c.loop-k.self (with_all c.args.place (read_outside c.args.room c.args.scope.now postfixes_form c.args.self.now)) c.loop-k.invariant (sym c.if-not-is_postfix_next.ensures)

pub postfixes-returns-in_err-postfix : goal.postfixes-returns-in_err-postfix
postfixes-returns-in_err-postfix t c =
    let p = err_from_is_err_and c.from_residual.result c.from_residual.ensures.1 in
    rw (p.1, p.2) (postfix_stops (λ k. read_outside c.args.room c.args.scope.now (postfix_form k)) begins_postfix c.loop-k.place c.left-most.result c.loop-k.k c.loop-k.self (with_all c.args.place (read_outside c.args.room c.args.scope.now postfixes_form c.args.self.now)) c.loop-k.invariant
    c.in_err-postfix.field-0.0 (omega arith) (sym c.if-not-is_postfix_next.ensures) c.in_err-postfix.ensures)

pub postfixes-loop-k-preserved : goal.postfixes-loop-k-preserved
postfixes-loop-k-preserved t c =
    rw c.in_ok-place.ensures (postfix_goes_on (λ k. read_outside c.args.room c.args.scope.now (postfix_form k)) begins_postfix c.loop-k.place c.left-most.result c.loop-k.k c.loop-k.self (with_all c.args.place (read_outside c.args.room c.args.scope.now postfixes_form c.args.self.now)) c.loop-k.invariant
    (postfix_of c.in_ok-postfix.postfix) c.postfix.new.self (omega arith) (sym c.if-not-is_postfix_next.ensures) c.in_ok-postfix.ensures)

pub postfixes-returns : goal.postfixes-returns
postfixes-returns t c =
    postfix_is_past (λ k. read_outside c.args.room c.args.scope.now (postfix_form k)) begins_postfix c.loop-k.place c.left-most.result c.loop-k.k c.loop-k.self (with_all c.args.place (read_outside c.args.room c.args.scope.now postfixes_form c.args.self.now)) c.loop-k.invariant (omega arith)
