use Rattle.mr_picture.proofs.Common.{◌++◌, ◌∙◌, ap, arith, map, flat_map, range_with_len, as_written, arrow_from, arrow_mark, scene_in}
use Rattle.mr_picture.proofs.Turns.{all_met}
use Rattle.mr_picture.proofs.Marks.{mapped_behind}
use Rattle.mr_picture.proofs.arrows_of.push_arrows_to.Goals as goal

pub loop-first-preserved : goal.loop-first-preserved
loop-first-preserved c =
    let s = scene_in c.args.scene.now in
    record {
      from = omega (arith, c.loop-first.invariant.from);
      to = omega (arith, c.loop-first-test.true);
      drawn =
          mapped_behind as_written (arrow_mark s) (arrow_from s.sketch.feet c.args.second) c.args.out.now.items
          c.loop-first.out.items c.push_arrow_from.new.out.items s.done.from c.loop-first.first
          c.loop-first.invariant.from c.loop-first.invariant.drawn c.in_ok-push_arrow_from.ensures;
    }

pub returns : goal.returns
returns c =
    let s = scene_in c.args.scene.now in
    c.loop-first.invariant.drawn
    ∙ ap
    (λ n. c.args.out.now.items
    ++ flat_map as_written (map (arrow_mark s) (flat_map (arrow_from s.sketch.feet c.args.second) (range_with_len s.done.from n))))
    (all_met s.done.from c.loop-first.first c.args.second c.loop-first.invariant.from c.loop-first-test.false
    c.loop-first.invariant.to)
