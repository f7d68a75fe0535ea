use Rattle.mr_replay.proofs.ToldLaws.{nothing_made, nothing_told, where_ok}
use Rattle.mr_replay.proofs.telling.tell_step.Goals as goal

pub returns-then-is_untold-clause-rows : goal.returns-then-is_untold-clause-rows
returns-then-is_untold-clause-rows g c =
    where_ok c.step.result
    (nothing_made c.args.p.now c.args.machine.now.look c.args.machine.now.config c.args.number c.args.entry.now
    (c.is_untold.ensures.picks c.if-is_untold.true) c.args.rows.now.items)

pub returns-then-is_untold-clause-told : goal.returns-then-is_untold-clause-told
returns-then-is_untold-clause-told g c =
    where_ok c.step.result
    (nothing_told c.args.part c.args.machine.now.look c.args.machine.now.config c.args.number c.args.entry.now
    (c.is_untold.ensures.part c.if-is_untold.true) c.args.steps.now.items)
