use Rattle.mr_replay.proofs.Common.{◌∙◌}
use Rattle.mr_replay.proofs.StandLaws.{stand_is}
use Rattle.mr_replay.proofs.standing.stand_of.Goals as goal

pub returns : goal.returns
returns c =
    c.stand_at.ensures
    ∙ stand_is c.args.machine.now.config c.args.thread c.place.result c.place.ensures.there c.place.ensures.gone
