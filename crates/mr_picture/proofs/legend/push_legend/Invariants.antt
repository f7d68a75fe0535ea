use Rattle.mr_picture.proofs.Common.{◌≡◌, ◌++◌, drop, flat_map, as_written, legend_row, rows_marks, scene_in}
use Rattle.mr_picture.proofs.legend.push_legend.Given as goal

-- the rows from this one on complete the legend
abbrev pub invariant-loop-sign : goal.invariant-loop-sign
invariant-loop-sign l =
    let marks = legend_row (scene_in l.scene) in
    record {
      row : l.row ≡ l.sign-index;
      rest : l.out.items ++ flat_map as_written (rows_marks marks l.row (drop l.sign-index l.signs))
          ≡ l.fn.out.items ++ flat_map as_written (rows_marks marks 0 l.signs);
    }
