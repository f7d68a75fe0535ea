use Rattle.mr_show.proofs.Common.{refl}
use Rattle.mr_show.specs.Help.{help_with_all}
use Rattle.mr_show.proofs.help.help_with_all.Goals as goal

pub returns : goal.returns
unfolding help_with_all
returns c = refl
