use Rattle.mr_show.proofs.Common.{sym}
use Rattle.mr_show.proofs.shown.ran.Goals as goal

pub ran_told-requires-clause-asked : goal.ran_told-requires-clause-asked
ran_told-requires-clause-asked c = sym c.in-Some.ensures

pub ran_stands-requires-clause-asked : goal.ran_stands-requires-clause-asked
ran_stands-requires-clause-asked c = sym c.in-None.ensures
