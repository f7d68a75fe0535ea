use Rattle.mr_show.specs.Help.{help_with}
use Rattle.mr_show.proofs.help.help_with.Goals as goal

pub returns : goal.returns
unfolding help_with
returns c = c.text_beside.ensures
