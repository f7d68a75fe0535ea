use Rattle.mr_picture.proofs.Common.{◌++◌, as_written, scene_in, column_marks, head_marks, line_marks, tail_count}
use Rattle.mr_picture.proofs.Marks.{last_marks, more_marks}
use Rattle.mr_picture.proofs.drawing.push_round.Goals as goal

pub returns : goal.returns
returns c =
    let s = scene_in c.args.scene.now in
    let old = c.args.out.now.items in
    let column = column_marks s s.first in
    last_marks as_written c.push_tail.result old _ _ (column ++ head_marks s)
    (line_marks s 0 (tail_count s) s.sketch.tail)
    (more_marks as_written old _ _ column (head_marks s) c.in_ok-push_column.ensures c.in_ok-push_heads.ensures)
    c.push_tail.ensures
