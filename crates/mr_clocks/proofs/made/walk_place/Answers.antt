use Rattle.mr_clocks.proofs.RowLaws.{known_place}
use Rattle.mr_clocks.proofs.made.walk_place.Goals as goal

pub returns-then-is_latest_known-clause-seen : goal.returns-then-is_latest_known-clause-seen
returns-then-is_latest_known-clause-seen c =
    known_place c.args.run.now c.args.rows.now c.args.links.now c.args.x c.args.j c.args.clock.now c.requires.rows c.requires.part (c.is_latest_known.ensures.known c.if-is_latest_known.true)

pub returns-clause-left : goal.returns-clause-left
returns-clause-left c =
    c.in_ok-keep_walk.ensures c.args.run.now c.args.j c.args.links.now c.in_ok-walk.ensures.skip c.requires.left
