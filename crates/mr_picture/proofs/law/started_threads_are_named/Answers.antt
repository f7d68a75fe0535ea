use Rattle.mr_picture.proofs.NameLaws.{started_named}
use Rattle.mr_picture.proofs.law.started_threads_are_named.Goals as goal

pub returns : goal.returns
returns c = started_named
