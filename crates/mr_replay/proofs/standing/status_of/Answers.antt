use Rattle.mr_replay.proofs.StandLaws.{status_is}
use Rattle.mr_replay.proofs.standing.status_of.Goals as goal

pub returns : goal.returns
returns c =
    status_is c.args.machine.now.config c.args.thread c.status.result c.status.ensures.there c.status.ensures.gone
