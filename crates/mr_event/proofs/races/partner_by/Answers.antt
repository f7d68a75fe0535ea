use Rattle.mr_event.proofs.Common.{◌-◌, arith, both_ways}
use Rattle.mr_event.proofs.Follows.{partner_found}
use Rattle.mr_event.proofs.races.partner_by.Goals as goal

pub returns-then-are_rivals : goal.returns-then-are_rivals
returns-then-are_rivals c =
    let rivals = c.are_rivals.ensures.0 c.if-are_rivals.true in
    let low = c.requires.clock.exact (c.loop-i.i - 1) (omega arith) in
    partner_found c.args.run.now (c.loop-i.i - 1) c.args.j (omega arith) rivals.0 rivals.1
    (λ h. both_ways _ c.if-not-is_below.true (c.is_below.ensures.1 (low.1 h)))
    (λ k lt. c.loop-i.invariant k (omega arith))
