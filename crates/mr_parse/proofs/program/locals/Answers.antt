use Rattle.mr_parse.proofs.Common.{◌≡◌, ◌+◌, suc, sym, subst, arith, err_from_is_err_and, local_form, locals_form, Gives, read}
use Rattle.mr_parse.proofs.Walk.LoopLaws.{comma_pushed_goes_on, comma_pushed_stops, comma_is_done, comma_is_past}
use Rattle.mr_parse.proofs.program.locals.Goals as goal

pub returns-then-not-is_next : goal.returns-then-not-is_next
returns-then-not-is_next c =
    comma_is_done c.args.room c.args.scope.now (λ k. local_form (suc k)) c.loop-k.locals c.turns-most.result c.loop-k.k c.loop-k.reader (read c.args.room c.args.scope.now locals_form c.args.reader.now) c.loop-k.invariant (sym c.if-not-is_next.ensures)

pub returns-in_err-locals : goal.returns-in_err-locals
returns-in_err-locals c =
    let p = err_from_is_err_and c.from_residual-in_err-locals.result c.from_residual-in_err-locals.ensures.1 in
    let next : c.loop-k.k + 1 ≡ suc c.loop-k.k = omega arith in
    let given = subst (λ n. Gives (λ x. (x, c.local_definition-in-loop-k.new.reader)) c.local_definition-in-loop-k.result (read c.args.room c.args.scope.now (local_form n) c.expect.new.self)) next c.local_definition-in-loop-k.ensures in
    rw (p.1, p.2) (comma_pushed_stops c.args.room c.args.scope.now (λ k. local_form (suc k)) c.loop-k.locals c.turns-most.result c.loop-k.k c.loop-k.reader (read c.args.room c.args.scope.now locals_form c.args.reader.now) c.loop-k.invariant
    c.local_definition-in-loop-k.result c.expect.new.self c.local_definition-in-loop-k.new.reader c.in_err-locals.field-0.0 (omega arith) (sym c.if-not-is_next.ensures) c.in_ok-expect.ensures given c.in_err-locals.ensures)

pub loop-k-preserved : goal.loop-k-preserved
loop-k-preserved c =
    let next : c.loop-k.k + 1 ≡ suc c.loop-k.k = omega arith in
    let given = subst (λ n. Gives (λ x. (x, c.local_definition-in-loop-k.new.reader)) c.local_definition-in-loop-k.result (read c.args.room c.args.scope.now (local_form n) c.expect.new.self)) next c.local_definition-in-loop-k.ensures in
    comma_pushed_goes_on c.args.room c.args.scope.now (λ k. local_form (suc k)) c.loop-k.locals c.turns-most.result c.loop-k.k c.loop-k.reader (read c.args.room c.args.scope.now locals_form c.args.reader.now) c.loop-k.invariant
    c.local_definition-in-loop-k.result c.expect.new.self c.local_definition-in-loop-k.new.reader _ (omega arith) (sym c.if-not-is_next.ensures) c.in_ok-expect.ensures given c.in_ok-locals.ensures

pub returns : goal.returns
returns c =
    comma_is_past c.args.room c.args.scope.now (λ k. local_form (suc k)) c.loop-k.locals c.turns-most.result c.loop-k.k c.loop-k.reader (read c.args.room c.args.scope.now locals_form c.args.reader.now) c.loop-k.invariant (omega arith)
