use Rattle.mr_picture.proofs.Common.{ℕ, ◌++◌, List, ◌∙◌, ap, arith, sym, drop_all, flat_map, as_written, left_marks, rows_marks, scene_in}
use Rattle.mr_picture.proofs.RowLaws.{no_rows, row_taken}
use Rattle.mr_picture.proofs.column.push_each_left.Goals as goal

pub loop-step-preserved : goal.loop-step-preserved
loop-step-preserved c =
    let marks = left_marks (scene_in c.args.scene.now) in
    record {
      row = omega (arith, c.loop-step.invariant.row);
      rest =
          row_taken marks c.loop-step.out.items c.push_left.new.out.items c.loop-step.row c.loop-step.step-index
          c.args.steps.now 0 c.loop-step-test.true c.in_ok-push_left.ensures
          ∙ c.loop-step.invariant.rest;
    }

pub returns : goal.returns
returns c =
    let marks = left_marks (scene_in c.args.scene.now) in
    let out = c.loop-step.out.items in
    let row = c.loop-step.row in
    sym (ap (λ (steps : List ℕ). out ++ flat_map as_written (rows_marks marks row steps))
    (drop_all c.loop-step.step-index c.args.steps.now c.loop-step-test.false)
    ∙ no_rows marks out row)
    ∙ c.loop-step.invariant.rest
