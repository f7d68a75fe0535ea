use Rattle.mr_runs.proofs.Common.{entries_of}
use Rattle.mr_runs.proofs.StampLaws.{sound_tiled}
use Rattle.mr_runs.proofs.ViewLaws.{window_bytes, window_maximal}
use Rattle.mr_runs.proofs.views.lend.Goals as goal

pub returns-clause-same : goal.returns-clause-same
returns-clause-same c = window_bytes (entries_of c.args.kept.now) c.args.from c.args.len

pub returns-clause-maximal : goal.returns-clause-maximal
returns-clause-maximal c = window_maximal (entries_of c.args.kept.now) c.args.from c.args.len (sound_tiled c.args.kept.now c.requires.0 c.requires.1)
