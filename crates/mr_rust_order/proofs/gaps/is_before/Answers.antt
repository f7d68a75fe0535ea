use Rattle.mr_rust_order.proofs.TestLaws.{before_is}
use Rattle.mr_rust_order.proofs.gaps.is_before.Goals as goal

pub returns-clause-before : goal.returns-clause-before
returns-clause-before c = before_is c.args.run.now c.args.i c.args.j c.in_ok-before.before c.in_ok-before.ensures
