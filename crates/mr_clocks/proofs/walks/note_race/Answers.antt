use Rattle.mr_clocks.proofs.Common.{step_at}
use Rattle.mr_clocks.proofs.SkipLaws.{race_with}
use Rattle.mr_clocks.proofs.walks.note_race.Goals as goal

pub returns-in_ok-add_access-in-Some-clause-raced : goal.returns-in_ok-add_access-in-Some-clause-raced
returns-in_ok-add_access-in-Some-clause-raced c = λ _.
    race_with (step_at c.args.run.now c.args.i).accesses c.add_access.new.by.items c.in-Some.access c.in_ok-add_access-in-Some.ensures.here c.in-Some.ensures.0
