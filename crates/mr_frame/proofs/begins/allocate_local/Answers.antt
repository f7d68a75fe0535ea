use Rattle.mr_frame.proofs.Common.{arith}
use Rattle.mr_layout.proofs.Bounds.{type_ok_small}
use Rattle.mr_frame.proofs.begins.allocate_local.Goals as goal

pub allocate-requires-clause-size : goal.allocate-requires-clause-size
allocate-requires-clause-size c = let small = type_ok_small c.args.t.now c.requires.ok in let size = c.byte_size.ensures in omega arith
