use Rattle.mr_parse.proofs.Common.{◌≡◌, ◌-◌, begins_stmt, stmt_form, stmts_form, read, many_at}
use Rattle.mr_parse.proofs.Walk.LoopLaws.{with_front}
use Rattle.mr_parse.proofs.statements.statements.Given as goal

abbrev pub invariant-loop-k : goal.invariant-loop-k
invariant-loop-k l =
    with_front l.stmts (many_at (λ k. read l.room l.scope (stmt_form k)) (begins_stmt) (l.most - l.k) l.k l.reader)
    ≡ read l.room l.scope stmts_form l.fn.reader
