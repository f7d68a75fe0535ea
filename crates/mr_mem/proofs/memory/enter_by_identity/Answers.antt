use Rattle.mr_mem.proofs.Views.{one_changed}
use Rattle.mr_mem.proofs.memory.enter_by_identity.Goals as goal

pub returns-clause-ok : goal.returns-clause-ok
returns-clause-ok c = one_changed c.args.allocations.now.entries c.insert.new.self.entries c.args.id c.args.stored c.in_ok-insert.ensures.updates.0
