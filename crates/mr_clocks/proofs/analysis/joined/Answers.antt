use Rattle.mr_clocks.proofs.Common.{◌<◌, length, slice_index, subst, sym, refl, thread_at, Follows, IsClockOf}
use Rattle.mr_clocks.proofs.Wholes.{join_more}
use Rattle.mr_clocks.proofs.analysis.joined.Goals as goal

pub loop-x-preserved : goal.loop-x-preserved
loop-x-preserved c =
    let run = c.args.run.now in
    let s = slice_index c.args.steps.now c.loop-x.x in
    let within : s < length run = c.requires.steps c.loop-x.x 0 c.loop-x-test.true in
    let other : IsClockOf run c.lent.result.now s = subst (λ l. IsClockOf run l s) (sym c.lent.ensures) (c.requires.clocks.each s within) in
    let follows : Follows c.loop-x.clock c.lent.result.now (thread_at run s) s c.follow.new.self =
    subst (λ t. Follows c.loop-x.clock c.lent.result.now t s c.follow.new.self) c.thread_at.ensures c.in_ok-follow.ensures in
    join_more run c.loop-x.clock c.lent.result.now c.follow.new.self c.args.steps.now c.loop-x.x s refl other follows c.loop-x.invariant
