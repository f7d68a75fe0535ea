use Rattle.mr_replay.proofs.Common.{◌∙◌, ap}
use Rattle.mr_replay.specs.Told.{started_by, started_from}
use Rattle.mr_replay.proofs.standing.started_in.Goals as goal

pub returns-in-Some : goal.returns-in-Some
returns-in-Some c =
    c.started_by.ensures ∙ ap (started_by c.args.machine.now.config) c.event.ensures
    ∙ ap (started_from c.args.machine.now.config) c.in-Some.ensures

pub returns-in-None : goal.returns-in-None
returns-in-None c = ap (started_from c.args.machine.now.config) c.in-None.ensures
