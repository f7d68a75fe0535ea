use Rattle.mr_intr.proofs.Common.{arith, sym, ◌∙◌}
use Rattle.std.proofs.Common.{below_more}
use Rattle.mr_sync.proofs.Waiters.{none_waiting, waiter_counts}
use Rattle.mr_intr.proofs.asks.any_waits.Goals as goal

pub returns-then-waiting : goal.returns-then-waiting
returns-then-waiting c = sym (waiter_counts c.args.lock c.args.sync.now.statuses c.loop-t.t (sym c.waiting.ensures ∙ c.if-waiting.true))

pub loop-t-preserved : goal.loop-t-preserved
loop-t-preserved c = (c.loop-t.invariant.0, below_more _ _ c.loop-t.invariant.1 (sym c.waiting.ensures ∙ c.if-waiting.false))

pub returns : goal.returns
returns c = sym (none_waiting c.args.lock c.args.sync.now.statuses (λ t lt. c.loop-t.invariant.1 t (omega (arith, c.loop-t.invariant.0, lt))))
