use Rattle.mr_frame.proofs.Common.{below_of, frame_of, stack_of}
use Rattle.mr_frame.proofs.IntrinsicLaws.{no_do}
use Rattle.mr_frame.proofs.stack.Stack.act.Goals as goal

pub end_block-requires-clause-other : goal.end_block-requires-clause-other
end_block-requires-clause-other c =
    let s = c.args.self.now in
    let due = c.in-Terminator.ensures in
    no_do c.args.look.now c.requires.ready (frame_of s.top) (below_of s) (stack_of s).payloads c.in-Terminator.t.now due.stands c.requires.other
