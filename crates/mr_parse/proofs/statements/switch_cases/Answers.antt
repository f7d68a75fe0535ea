use Rattle.mr_parse.proofs.Common.{sym, arith, codes, err_from_is_err_and, switch_case_form, switch_cases_form, other_than, read}
use Rattle.mr_parse.proofs.Walk.LoopLaws.{goes_on, stops, is_done, is_past}
use Rattle.mr_parse.proofs.statements.switch_cases.Goals as goal

pub returns-then-not-is_other : goal.returns-then-not-is_other
returns-then-not-is_other c =
    is_done (λ k. read c.args.room c.args.scope.now (switch_case_form)) (other_than (codes "_")) c.loop.cases c.left-most.result c.loop.counter c.loop.reader (read c.args.room c.args.scope.now switch_cases_form c.args.reader.now) c.loop.invariant (sym c.if-not-is_other.ensures)

pub returns-in_err-switch_case : goal.returns-in_err-switch_case
returns-in_err-switch_case c =
    let p = err_from_is_err_and c.from_residual.result c.from_residual.ensures.1 in
    rw (p.1, p.2) (stops (λ k. read c.args.room c.args.scope.now (switch_case_form)) (other_than (codes "_")) c.loop.cases c.left-most.result c.loop.counter c.loop.reader (read c.args.room c.args.scope.now switch_cases_form c.args.reader.now) c.loop.invariant
    c.in_err-switch_case.field-0.0 (omega arith) (sym c.if-not-is_other.ensures) c.in_err-switch_case.ensures)

pub loop-preserved : goal.loop-preserved
loop-preserved c =
    rw c.in_ok-push.ensures.ok (goes_on (λ k. read c.args.room c.args.scope.now (switch_case_form)) (other_than (codes "_")) c.loop.cases c.left-most.result c.loop.counter c.loop.reader (read c.args.room c.args.scope.now switch_cases_form c.args.reader.now) c.loop.invariant
    c.in_ok-switch_case.field-0 c.switch_case.new.reader (omega arith) (sym c.if-not-is_other.ensures) c.in_ok-switch_case.ensures)

pub returns : goal.returns
returns c =
    is_past (λ k. read c.args.room c.args.scope.now (switch_case_form)) (other_than (codes "_")) c.loop.cases c.left-most.result c.loop.counter c.loop.reader (read c.args.room c.args.scope.now switch_cases_form c.args.reader.now) c.loop.invariant (omega arith)
