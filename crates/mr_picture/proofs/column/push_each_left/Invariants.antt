use Rattle.mr_picture.proofs.Common.{◌≡◌, ◌+◌, ◌++◌, drop, flat_map, as_written, left_marks, rows_marks, scene_in}
use Rattle.mr_picture.proofs.column.push_each_left.Given as goal

-- the steps from this one on complete the column
abbrev pub invariant-loop-step : goal.invariant-loop-step
invariant-loop-step l =
    let marks = left_marks (scene_in l.scene) in
    record {
      row : l.row ≡ l.from + l.step-index;
      rest : l.out.items ++ flat_map as_written (rows_marks marks l.row (drop l.step-index l.steps))
          ≡ l.fn.out.items ++ flat_map as_written (rows_marks marks l.from l.steps);
    }
