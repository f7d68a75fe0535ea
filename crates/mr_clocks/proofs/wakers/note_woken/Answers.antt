use Rattle.mr_clocks.proofs.Common.{ℕ, slice_index, subst, sym, arith, ℕ_discrete, IsKept}
use Rattle.mr_clocks.proofs.wakers.note_woken.Goals as goal

pub note_wake-requires-clause-reached : goal.note_wake-requires-clause-reached
note_wake-requires-clause-reached c =
    let low = c.requires.reached c.loop-y.y c.loop-y-test.true in
    let same = c.loop-y.invariant.reach in
    omega (arith, low, same)

pub loop-y-preserved : goal.loop-y-preserved
loop-y-preserved c =
    let i = c.loop-y.invariant in
    let e = c.note_wake.ensures in
    let new = c.note_wake.new.wakers in
    record {
      wakers = e.wakers;
      own = λ z lt. elim (ℕ_discrete z c.loop-y.y) [
        | yes is ↦ subst (λ (q : ℕ). IsKept new.links.items (slice_index new.heads.items (slice_index c.args.threads.now q)) c.args.j) (sym is) e.own
        | no ne ↦ e.kept (slice_index c.args.threads.now z) (i.own z (omega (arith, lt, ne)))
      ];
      reach = let one = e.reach in let two = i.reach in omega (arith, one, two);
      more = let one = e.one in let two = i.more in omega (arith, one, two);
      room = let one = e.room in let two = i.room in omega (arith, one, two);
    }
