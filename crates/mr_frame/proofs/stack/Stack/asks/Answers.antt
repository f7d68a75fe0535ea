use Rattle.mr_frame.proofs.Common.{below_of, frame_of, stack_of}
use Rattle.mr_frame.proofs.IntrinsicLaws.{no_do}
use Rattle.mr_frame.proofs.stack.Stack.asks.Goals as goal

pub terminator_asks-requires-clause-other : goal.terminator_asks-requires-clause-other
terminator_asks-requires-clause-other c =
    let s = c.args.self.now in
    let due = c.in-Terminator.ensures in
    no_do c.args.look.now c.requires.ready (frame_of s.top) (below_of s) (stack_of s).payloads c.in-Terminator.t.now due.stands c.requires.other
