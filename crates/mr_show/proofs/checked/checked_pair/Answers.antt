use Rattle.mr_show.proofs.Common.{inr}
use Rattle.mr_show.proofs.checked.checked_pair.Goals as goal

pub returns-clause-status : goal.returns-clause-status
returns-clause-status c = inr (inr c.in_ok-written.ensures.status)
