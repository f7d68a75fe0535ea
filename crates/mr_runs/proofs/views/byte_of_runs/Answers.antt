use Rattle.mr_runs.proofs.FindLaws.{byte_of_holder}
use Rattle.mr_runs.proofs.views.byte_of_runs.Goals as goal

pub returns : goal.returns
returns c =
    byte_of_holder c.args.runs.now.entries c.args.at c.run_at-begin.result.0 c.run_at-begin.result.1.now c.byte.result c.requires.tiled c.run_at-begin.ensures c.byte.ensures
