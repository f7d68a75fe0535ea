use Rattle.mr_next.proofs.Common.{[], arith}
use Rattle.mr_next.proofs.culprits.is_broken.Goals as goal

pub step-requires-clause-room : goal.step-requires-clause-room
step-requires-clause-room c = ([], tt, omega arith)

pub unreachable-requires : goal.unreachable-requires
unreachable-requires c =
    let (f, is) = c.requires.refused in
    let legal = c.in-Ok.ensures.answer.legal in
    cc
