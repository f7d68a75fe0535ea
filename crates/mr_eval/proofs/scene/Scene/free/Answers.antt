use Rattle.mr_eval.specs.World.{world_of}
use Rattle.mr_eval.proofs.RefusedLaws.{free_refused}
use Rattle.mr_eval.proofs.scene.Scene.free.Goals as goal

pub returns-in-Err : goal.returns-in-Err
returns-in-Err c =
    free_refused (world_of c.args.self.now) c.args.p c.args.kind c.args.size c.args.align c.refuse.new.self.refused c.in-Err.reason c.in-Err.ensures.freed c.refuse.ensures.last
