use Rattle.mr_frame.proofs.Common.{world_of}
use Rattle.mr_frame.proofs.EnterLaws.{not_refused}
use Rattle.mr_frame.proofs.stack.Stack.enter.Goals as goal

pub unreachable-requires : goal.unreachable-requires
unreachable-requires c =
    let refused = rw c.in-Err-Undefined.field-0-is at c.in-Err-Undefined.ensures in
    not_refused c.args.look.now c.args.f.0 c.args.args.now c.args.picks.now (world_of c.args.s.now) c.requires _ refused
