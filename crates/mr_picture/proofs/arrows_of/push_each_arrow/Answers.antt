use Rattle.mr_picture.proofs.Common.{◌≡◌, ◌-◌, ◌++◌, ◌∙◌, ap, arith, map, flat_map, range_with_len, as_written, arrows_to, arrow_mark, scene_in}
use Rattle.mr_picture.proofs.Marks.{mapped_behind}
use Rattle.mr_picture.proofs.arrows_of.push_each_arrow.Goals as goal

pub loop-second-preserved : goal.loop-second-preserved
loop-second-preserved c =
    let s = scene_in c.args.scene.now in
    record {
      from = omega (arith, c.loop-second.invariant.from);
      to = omega (arith, c.loop-second-test.true);
      rust = c.in_ok-add.ensures.tracks;
      drawn =
          mapped_behind as_written (arrow_mark s) (arrows_to s.sketch.feet s.done.from) c.args.out.now.items
          c.loop-second.out.items c.push_arrows_to.new.out.items s.done.from c.loop-second.second
          c.loop-second.invariant.from c.loop-second.invariant.drawn c.in_ok-push_arrows_to.ensures;
    }

pub returns : goal.returns
returns c =
    let s = scene_in c.args.scene.now in
    let met : c.loop-second.second - s.done.from ≡ s.done.to - s.done.from =
    omega (arith, c.loop-second-test.false, c.loop-second.invariant.to) in
    c.loop-second.invariant.drawn
    ∙ ap
    (λ n. c.args.out.now.items
    ++ flat_map as_written (map (arrow_mark s) (flat_map (arrows_to s.sketch.feet s.done.from) (range_with_len s.done.from n))))
    met
