use Rattle.mr_runs.proofs.Common.{option_copied}
use Rattle.mr_runs.proofs.ViewLaws.{lent_maximal, lent_part_bytes}
use Rattle.mr_runs.proofs.views.window.Goals as goal

pub returns-clause-same : goal.returns-clause-same
returns-clause-same c = lent_part_bytes (option_copied c.args.kept) c.args.begin c.args.whole c.args.from c.args.len c.requires.lent c.requires.inside

pub returns-clause-maximal : goal.returns-clause-maximal
returns-clause-maximal c = lent_maximal (option_copied c.args.kept) c.args.begin c.args.whole c.args.from c.args.len c.requires.lent
