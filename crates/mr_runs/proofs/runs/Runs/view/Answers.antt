use Rattle.mr_runs.proofs.Common.{length, ap, arith}
use Rattle.mr_runs.proofs.StampLaws.{sound_length}
use Rattle.mr_runs.proofs.runs.Runs.view.Goals as goal

pub lend-requires : goal.lend-requires
lend-requires c =
    let all = sound_length c.self.inside.kept c.self.inside.len c.self.invariant in
    (c.self.inside.len, c.self.invariant, omega (arith, c.requires, all, ap length c.self.view_is), omega (arith, c.requires, all, ap length c.self.view_is))
