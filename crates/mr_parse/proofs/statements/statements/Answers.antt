use Rattle.mr_parse.proofs.Common.{sym, arith, err_from_is_err_and, begins_stmt, stmt_form, stmts_form, read}
use Rattle.mr_parse.proofs.Walk.LoopLaws.{goes_on, stops, is_done, is_past}
use Rattle.mr_parse.proofs.statements.statements.Goals as goal

pub returns-then-not-is_statement_next : goal.returns-then-not-is_statement_next
returns-then-not-is_statement_next c =
    is_done (λ k. read c.args.room c.args.scope.now (stmt_form k)) (begins_stmt) c.loop-k.stmts c.left-most.result c.loop-k.k c.loop-k.reader (read c.args.room c.args.scope.now stmts_form c.args.reader.now) c.loop-k.invariant (sym c.if-not-is_statement_next.ensures)

pub returns-in_err-statement : goal.returns-in_err-statement
returns-in_err-statement c =
    let p = err_from_is_err_and c.from_residual.result c.from_residual.ensures.1 in
    rw (p.1, p.2) (stops (λ k. read c.args.room c.args.scope.now (stmt_form k)) (begins_stmt) c.loop-k.stmts c.left-most.result c.loop-k.k c.loop-k.reader (read c.args.room c.args.scope.now stmts_form c.args.reader.now) c.loop-k.invariant
    c.in_err-statement.field-0.0 (omega arith) (sym c.if-not-is_statement_next.ensures) c.in_err-statement.ensures)

pub loop-k-preserved : goal.loop-k-preserved
loop-k-preserved c =
    rw c.in_ok-push.ensures.ok (goes_on (λ k. read c.args.room c.args.scope.now (stmt_form k)) (begins_stmt) c.loop-k.stmts c.left-most.result c.loop-k.k c.loop-k.reader (read c.args.room c.args.scope.now stmts_form c.args.reader.now) c.loop-k.invariant
    c.in_ok-statement.field-0 c.statement.new.reader (omega arith) (sym c.if-not-is_statement_next.ensures) c.in_ok-statement.ensures)

pub returns : goal.returns
returns c =
    is_past (λ k. read c.args.room c.args.scope.now (stmt_form k)) (begins_stmt) c.loop-k.stmts c.left-most.result c.loop-k.k c.loop-k.reader (read c.args.room c.args.scope.now stmts_form c.args.reader.now) c.loop-k.invariant (omega arith)
