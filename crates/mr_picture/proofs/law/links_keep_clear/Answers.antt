use Rattle.mr_picture.proofs.ClearLaws.{arrows_clear, races_clear}
use Rattle.mr_picture.proofs.law.links_keep_clear.Goals as goal

pub returns-clause-arrows : goal.returns-clause-arrows
returns-clause-arrows c = arrows_clear

pub returns-clause-races : goal.returns-clause-races
returns-clause-races c = races_clear
