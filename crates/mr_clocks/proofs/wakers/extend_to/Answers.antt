use Rattle.mr_clocks.proofs.Common.{ℕ, List, ◌<◌, length, refl, slice_index, subst, sym, arith, ℕ_discrete, AreExtended}
use Rattle.mr_clocks.proofs.WakerLaws.{extended_more, extended_none}
use Rattle.mr_clocks.proofs.wakers.extend_to.Goals as goal

pub loop-y-init : goal.loop-y-init
loop-y-init c = record {
  kept = extended_none c.args.heads.now.items c.args.heads.now.items refl;
  reached = λ z lt. absurd (omega (arith, lt));
}

pub loop-y-preserved : goal.loop-y-preserved
loop-y-preserved c =
    let i = c.loop-y.invariant in
    let e = c.in_ok-extend_past.ensures in
    let new = c.extend_past.new.times.items in
    record {
      kept = extended_more c.args.heads.now.items c.loop-y.heads.items new i.kept (record { longer = e.grown; same = e.same });
      reached = λ z lt. elim (ℕ_discrete z c.loop-y.y) [
        | yes is ↦ subst (λ (q : ℕ). slice_index c.args.threads.now q < length new) (sym is) e.long
        | no ne ↦ let low = i.reached z (omega (arith, lt, ne)) in let grown = e.grown in omega (arith, low, grown)
      ];
    }

pub returns-in_err-extend_past-clause-kept : goal.returns-in_err-extend_past-clause-kept
returns-in_err-extend_past-clause-kept c = subst (λ (l : List ℕ). AreExtended c.args.heads.now.items l) (sym c.in_err-extend_past.ensures.err) c.loop-y.invariant.kept

pub returns-clause-kept : goal.returns-clause-kept
returns-clause-kept c = c.loop-y.invariant.kept
