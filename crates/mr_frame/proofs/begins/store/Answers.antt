use Rattle.mr_frame.proofs.Common.{seen, world_of}
use Rattle.mr_frame.proofs.ChangeRuns.{store_tells}
use Rattle.mr_frame.proofs.begins.store.Goals as goal

pub returns : goal.returns
returns c =
    store_tells c.store_typed.result c.args.t.now c.args.p c.args.v.now (world_of c.args.s.now) c.store_typed.new.m (seen c.store_typed.new.n) c.store_typed.new.n.refused c.requires.shape c.store_typed.ensures.given
