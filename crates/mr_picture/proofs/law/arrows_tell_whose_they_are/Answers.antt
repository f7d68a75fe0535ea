use Rattle.mr_picture.proofs.LinkLaws.{whose}
use Rattle.mr_picture.proofs.law.arrows_tell_whose_they_are.Goals as goal

pub returns : goal.returns
returns c = whose
