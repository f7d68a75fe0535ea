use Rattle.mr_runs.proofs.Common.{◌∙◌, length, sym, ap}
use Rattle.mr_runs.proofs.StampLaws.{sound_length}
use Rattle.mr_runs.proofs.runs.Runs.len.Goals as goal

pub returns : goal.returns
returns c = sym (sound_length c.self.inside.kept c.self.inside.len c.self.invariant) ∙ ap length c.self.view_is
