use Rattle.mr_run.proofs.OneThread.{none_shown}
use Rattle.mr_run.proofs.laws.one_thread_shows_no_race.Goals as goal

pub returns : goal.returns
returns c = none_shown
