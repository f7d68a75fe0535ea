use Rattle.mr_frame.proofs.Common.{seen, env_surround}
use Rattle.mr_frame.proofs.PointedLaws.{pointed_known, pointer_found}
use Rattle.mr_frame.proofs.values.pointer.Goals as goal

pub pointer_in-requires : goal.pointer_in-requires
pointer_in-requires c = pointer_found c.args.e.now c.args.v.now c.in_ok-v.v c.requires c.in_ok-v.ensures.shape

pub returns-clause-given : goal.returns-clause-given
returns-clause-given c =
    pointed_known c.args.m.now (env_surround c.args.e.now) c.args.v.now (seen c.args.n.now) (seen c.value.new.n) c.in_ok-v.v c.pointer_in.result c.in_ok-v.ensures.given c.pointer_in.ensures
