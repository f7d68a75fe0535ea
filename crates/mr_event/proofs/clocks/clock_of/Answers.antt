use Rattle.mr_event.proofs.Common.{◌≡◌, suc, ◌-◌, ◌<◌, subst, sym, ◌∙◌, length, get_or, [], arith, both_ways, Follows, IsClock}
use Rattle.std.proofs.lemmas.List.{get_or_read}
use Rattle.mr_event.proofs.ClockSteps.{IsClockFrom, below_by_edges, clock_follows, clock_stays}
use Rattle.mr_event.proofs.clocks.clock_of.Goals as goal
use Rattle.mr_event.proofs.clocks.clock_of.Goals.{else-not-is_below-via-then-not-is_below+else-edge, else-not-is_below-via-else-not-is_below}

pub loop-i-preserved-then-edge : goal.loop-i-preserved-then-edge
loop-i-preserved-then-edge c =
    let at : c.loop-i.i ≡ suc (c.loop-i.i - 1) = omega arith in
    let from : IsClockFrom c.args.run.now c.args.slots.now.of.items c.loop-i.clock (suc (c.loop-i.i - 1)) c.args.k =
    subst (λ n. IsClockFrom c.args.run.now c.args.slots.now.of.items c.loop-i.clock n c.args.k) at c.loop-i.invariant.from in
    let low : c.loop-i.i - 1 < length c.args.clocks.now = omega (arith, c.requires.known) in
    let other : IsClock c.args.run.now c.args.slots.now.of.items c.index-clocks-i.result (c.loop-i.i - 1) =
    subst (λ l. IsClock c.args.run.now c.args.slots.now.of.items l (c.loop-i.i - 1)) (sym (get_or_read c.args.clocks.now (c.loop-i.i - 1) c.index-clocks-i.result low c.index-clocks-i.is [])) (c.requires.clocks.each (c.loop-i.i - 1) low) in
    let step : c.loop-i.i - 1 < length c.args.slots.now.of.items = omega (arith, c.requires.slots.all, c.requires.within) in
    let follows : Follows c.loop-i.clock c.index-clocks-i.result (get_or c.args.slots.now.of.items (c.loop-i.i - 1) 0) (c.loop-i.i - 1) c.follow.new.self =
    subst (λ s. Follows c.loop-i.clock c.index-clocks-i.result s (c.loop-i.i - 1) c.follow.new.self) (get_or_read c.args.slots.now.of.items (c.loop-i.i - 1) c.index.result.now step c.index.ensures 0) c.follow.ensures in
    record {
      wide = c.follow.ensures.wide ∙ c.loop-i.invariant.wide;
      from = clock_follows c.args.run.now c.args.slots.now.of.items c.args.slots.now.count c.loop-i.clock c.index-clocks-i.result c.follow.new.self (c.loop-i.i - 1) c.args.k
          c.requires.slots c.requires.within (omega arith) other from
          (λ b. both_ways _ c.if-not-is_below.true (c.is_below.ensures.1 b))
          (c.edge.ensures.0 c.if-edge.true)
          follows;
    }

pub loop-i-preserved : goal.loop-i-preserved
loop-i-preserved c =
    let at : c.loop-i.i ≡ suc (c.loop-i.i - 1) = omega arith in
    let from : IsClockFrom c.args.run.now c.args.slots.now.of.items c.loop-i.clock (suc (c.loop-i.i - 1)) c.args.k =
    subst (λ n. IsClockFrom c.args.run.now c.args.slots.now.of.items c.loop-i.clock n c.args.k) at c.loop-i.invariant.from in
    record {
      wide = c.loop-i.invariant.wide;
      from = clock_stays c.args.run.now c.args.slots.now.of.items c.loop-i.clock (c.loop-i.i - 1) c.args.k from
          (λ h. elim c.else-not-is_below.branch [
            | else-not-is_below-via-then-not-is_below+else-edge w ↦ below_by_edges c.args.run.now c.args.slots.now.of.items c.loop-i.clock (c.loop-i.i - 1) c.args.k from (λ e. both_ways _ w.if-edge.false (w.edge.ensures.1 e)) h
            | else-not-is_below-via-else-not-is_below w ↦ c.is_below.ensures.0 w.if-not-is_below.false
          ]);
    }
