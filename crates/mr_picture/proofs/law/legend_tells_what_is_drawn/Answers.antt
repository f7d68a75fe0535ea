use Rattle.mr_picture.proofs.LegendLaws.{told_exactly}
use Rattle.mr_picture.proofs.law.legend_tells_what_is_drawn.Goals as goal

pub returns : goal.returns
returns c = told_exactly
