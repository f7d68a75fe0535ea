use Rattle.mr_picture.proofs.Common.{◌+◌, sym, arith, ◌∙◌, lies_between}
use Rattle.mr_picture.proofs.Turns.{none_passes, one_passes}
use Rattle.mr_picture.proofs.order.has_between.Goals as goal

pub returns-then-lies_between : goal.returns-then-lies_between
returns-then-lies_between c =
    sym (one_passes (lies_between c.args.run.now c.args.i c.args.j) (c.args.i + 1) c.loop-k.k c.args.j
    c.loop-k.invariant.from c.loop-k-test.true (sym c.lies_between.ensures ∙ c.if-lies_between.true))

pub loop-k-preserved : goal.loop-k-preserved
loop-k-preserved c = record {
  from = omega (arith, c.loop-k.invariant.from);
  none =
      none_passes (lies_between c.args.run.now c.args.i c.args.j) (c.args.i + 1) c.loop-k.k c.loop-k.invariant.from
      c.loop-k.invariant.none (sym c.lies_between.ensures ∙ c.if-lies_between.false);
}
