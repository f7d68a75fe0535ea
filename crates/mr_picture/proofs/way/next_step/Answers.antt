use Rattle.mr_picture.proofs.Common.{◌≡◌, ◌-◌, ◌∙◌, suc, ap, arith, sym, greatest_below, leads}
use Rattle.mr_picture.proofs.WayLaws.{found_below}
use Rattle.mr_picture.proofs.way.next_step.Goals as goal

pub loop-left-preserved : goal.loop-left-preserved
loop-left-preserved c =
    let test = leads c.args.run.now c.args.i c.args.j in
    let left = c.loop-left.left in
    let one : left ≡ suc (left - 1) = omega (arith, c.loop-left-test.true) in
    record {
      rest =
          sym (found_below test (left - 1) (sym c.leads-in-loop-left.ensures ∙ c.if-leads-2.false))
          ∙ ap (greatest_below test) (sym one) ∙ c.loop-left.invariant.rest;
      low = omega (arith, c.loop-left.invariant.low);
    }
