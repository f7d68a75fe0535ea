use Rattle.mr_sched.proofs.VersionLaws.{text_one}
use Rattle.mr_sched.proofs.laws.line_each.Goals as goal

pub returns : goal.returns
returns c = text_one
