use Rattle.mr_parse.proofs.Common.{sym, arith, codes, err_from_is_err_and, other_than, case_form, cases_form, read}
use Rattle.mr_parse.proofs.Walk.LoopLaws.{goes_on, stops, is_done, is_past}
use Rattle.mr_parse.proofs.reader.Reader.+trees.Goals as goal

pub cases-returns-then-not-is_other : goal.cases-returns-then-not-is_other
cases-returns-then-not-is_other t c =
    is_done (λ k. read c.args.room c.args.scope.now (case_form)) (other_than (codes "_")) c.loop.cases c.left-most.result c.loop.counter c.loop.self (read c.args.room c.args.scope.now cases_form c.args.self.now) c.loop.invariant (sym c.if-not-is_other.ensures)

pub cases-returns-in_err-case : goal.cases-returns-in_err-case
cases-returns-in_err-case t c =
    let p = err_from_is_err_and c.from_residual.result c.from_residual.ensures.1 in
    rw (p.1, p.2) (stops (λ k. read c.args.room c.args.scope.now (case_form)) (other_than (codes "_")) c.loop.cases c.left-most.result c.loop.counter c.loop.self (read c.args.room c.args.scope.now cases_form c.args.self.now) c.loop.invariant
    c.in_err-case.field-0.0 (omega arith) (sym c.if-not-is_other.ensures) c.in_err-case.ensures)

pub cases-loop-preserved : goal.cases-loop-preserved
cases-loop-preserved t c =
    rw c.in_ok-push.ensures.ok (goes_on (λ k. read c.args.room c.args.scope.now (case_form)) (other_than (codes "_")) c.loop.cases c.left-most.result c.loop.counter c.loop.self (read c.args.room c.args.scope.now cases_form c.args.self.now) c.loop.invariant
    c.in_ok-case.field-0 c.case.new.self (omega arith) (sym c.if-not-is_other.ensures) c.in_ok-case.ensures)

pub cases-returns : goal.cases-returns
cases-returns t c =
    is_past (λ k. read c.args.room c.args.scope.now (case_form)) (other_than (codes "_")) c.loop.cases c.left-most.result c.loop.counter c.loop.self (read c.args.room c.args.scope.now cases_form c.args.self.now) c.loop.invariant (omega arith)
