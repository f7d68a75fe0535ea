use Rattle.mr_clocks.proofs.Common.{sym, subst, refl, arith, IsSkip}
use Rattle.mr_clocks.proofs.SkipLaws.{none_skips, skips_push}
use Rattle.mr_clocks.proofs.skips.fill.Goals as goal

pub loop-k-init : goal.loop-k-init
loop-k-init c = record { each = λ run n links h. h; count = sym c.len-k.ensures; room = refl }

pub loop-k-preserved : goal.loop-k-preserved
loop-k-preserved c =
    let i = c.loop-k.invariant in
    record {
      each = λ run n links h. skips_push run n links c.loop-k.skips.items c.push_reserved.new.self.items c.none.result c.push_reserved.ensures.items (i.each run n links h)
          (subst (λ s. IsSkip run n links s) (sym c.none.ensures) (none_skips run n links));
      count = let n = i.count in let more = c.push_reserved.ensures.len in omega (arith, n, more);
      room = let n = i.room in let same = c.push_reserved.ensures.capacity in omega (arith, n, same);
    }

pub returns : goal.returns
returns c = λ run n links h. c.loop-k.invariant.each run n links h
