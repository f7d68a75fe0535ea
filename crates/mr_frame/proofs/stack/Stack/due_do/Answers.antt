use Rattle.mr_frame.proofs.Common.{below_of, frame_of, stack_of}
use Rattle.mr_frame.proofs.IntrinsicLaws.{no_stmt_due, term_due}
use Rattle.mr_frame.proofs.stack.Stack.due_do.Goals as goal

pub unreachable-requires : goal.unreachable-requires
unreachable-requires c =
    let s = c.args.self.now in
    let due = c.in-Statement.ensures in
    no_stmt_due c.args.look.now c.requires.ready (frame_of s.top) (below_of s) (stack_of s).payloads c.requires.due.0 c.requires.due.1 c.in-Statement.field-0.now due.stands

pub returns : goal.returns
returns c =
    let s = c.args.self.now in
    let due = c.in-Terminator.ensures in
    record {
      due = due;
      is = λ d e. term_due c.args.look.now c.requires.ready (frame_of s.top) (below_of s) (stack_of s).payloads d e c.in-Terminator.t.now due.stands;
    }
