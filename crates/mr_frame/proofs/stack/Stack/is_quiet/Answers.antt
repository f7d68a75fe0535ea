use Rattle.mr_frame.proofs.AskLaws.{quiet_stmt, quiet_term}
use Rattle.mr_frame.proofs.stack.Stack.is_quiet.Goals as goal

pub returns-in-Statement : goal.returns-in-Statement
returns-in-Statement c = λ quiet. quiet_stmt c.args.look.now c.args.self.now c.in-Statement.stmt.now c.in-Statement.ensures (c.is_no_live.ensures quiet)

pub returns-in-Terminator : goal.returns-in-Terminator
returns-in-Terminator c = λ quiet. quiet_term c.args.look.now c.args.self.now c.in-Terminator.t.now c.in-Terminator.ensures (c.is_no_call.ensures.operation quiet) (c.is_no_call.ensures.call quiet)
