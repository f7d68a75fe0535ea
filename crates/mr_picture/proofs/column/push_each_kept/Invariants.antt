use Rattle.mr_picture.proofs.Common.{◌≡◌, ◌++◌, drop, flat_map, as_written, kept_marks, rows_marks, scene_in}
use Rattle.mr_picture.proofs.column.push_each_kept.Given as goal

-- the steps from this one on complete the column
abbrev pub invariant-loop-step : goal.invariant-loop-step
invariant-loop-step l =
    let marks = kept_marks (scene_in l.scene) l.race in
    record {
      row : l.row ≡ l.step-index;
      rest : l.out.items ++ flat_map as_written (rows_marks marks l.row (drop l.step-index l.steps))
          ≡ l.fn.out.items ++ flat_map as_written (rows_marks marks 0 l.steps);
    }
