use Rattle.mr_clocks.proofs.Common.{arith, ◌∙◌, ap, length, length-append, ◌∷◌, [], IsNeeded}
use Rattle.mr_clocks.proofs.Wholes.{marks_more}
use Rattle.mr_clocks.proofs.whole.needed_plain.Goals as goal

pub loop-k-preserved : goal.loop-k-preserved
loop-k-preserved c =
    let i = c.loop-k.invariant in
    record {
      count = let n = i.count in let long = ap length c.in_ok-push.ensures.items ∙ length-append c.loop-k.marks.items (c.in_ok-is_needed.is_needed ∷ []) in omega (arith, n, long);
      each = marks_more (IsNeeded c.args.run.now c.args.steps.now) c.loop-k.k c.loop-k.marks.items c.push.new.self.items c.in_ok-is_needed.is_needed i.count c.in_ok-push.ensures.items i.each c.in_ok-is_needed.ensures;
    }
