use Rattle.mr_picture.proofs.Common.{◌++◌, ◌∙◌, ap, arith, flat_map, range_with_len, as_written, scene_in, row_marks}
use Rattle.mr_picture.proofs.Turns.{all_met}
use Rattle.mr_picture.proofs.Marks.{row_behind}
use Rattle.mr_picture.proofs.steps.push_rows.Goals as goal

pub loop-step-preserved : goal.loop-step-preserved
loop-step-preserved c =
    let s = scene_in c.args.scene.now in
    record {
      from = omega (arith, c.loop-step.invariant.from);
      to = omega (arith, c.loop-step-test.true);
      drawn =
          row_behind as_written (row_marks s) c.args.out.now.items c.loop-step.out.items c.push_row.new.out.items
          s.span.from c.loop-step.step c.loop-step.invariant.from c.loop-step.invariant.drawn c.in_ok-push_row.ensures;
    }

pub returns : goal.returns
returns c =
    let s = scene_in c.args.scene.now in
    c.loop-step.invariant.drawn
    ∙ ap (λ n. c.args.out.now.items ++ flat_map as_written (flat_map (row_marks s) (range_with_len s.span.from n)))
    (all_met s.span.from c.loop-step.step s.span.to c.loop-step.invariant.from c.loop-step-test.false
    c.loop-step.invariant.to)
