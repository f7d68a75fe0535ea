use Rattle.mr_picture.proofs.Common.{◌∷◌, [], as_written, scene_in, length, column_name, column_race, kept_marks, left_marks, rows_marks}
use Rattle.mr_picture.proofs.Marks.{begun, last_marks, more_mark, more_marks}
use Rattle.mr_picture.proofs.column.push_column_of.Goals as goal

pub returns : goal.returns
returns c =
    let s = scene_in c.args.scene.now in
    let old = c.args.out.now.items in
    let kept = c.args.kept.now in
    let name = column_name s in
    let race = column_race s c.args.race (length kept) in
    let rows = rows_marks (kept_marks s c.args.race) 0 kept in
    last_marks as_written c.push_each_left.result old _ _ (name ∷ race ∷ rows)
    (rows_marks (left_marks s) (length kept) c.args.left.now)
    (more_marks as_written old _ _ (name ∷ race ∷ []) rows
    (more_mark as_written old _ _ (name ∷ []) race
    (more_mark as_written old old _ [] name (begun as_written old) c.in_ok-push_column_name.ensures)
    c.in_ok-push_column_race.ensures)
    c.in_ok-push_each_kept.ensures)
    c.push_each_left.ensures
