use Rattle.mr_run.proofs.Common.{List, subst, Tracks, Footprint}
use Rattle.mr_run.proofs.clocked.Clocked.order.Goals as goal

pub returns : goal.returns
returns c = subst (λ (l : List Footprint). Tracks c.self.inside.order l) c.self.view_is c.self.invariant.tracks
