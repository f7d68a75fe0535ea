use Rattle.mr_picture.proofs.Common.{◌∷◌, [], as_written, left_mark, left_number, scene_in}
use Rattle.mr_picture.proofs.Marks.{begun, last_mark, more_mark}
use Rattle.mr_picture.proofs.column.push_left.Goals as goal

pub returns : goal.returns
returns c =
    let s = scene_in c.args.scene.now in
    let old = c.args.out.now.items in
    let own = left_mark s c.args.row c.args.step in
    last_mark as_written c.push_left_number.result old _ _ (own ∷ []) (left_number s c.args.row c.args.step)
    (more_mark as_written old old _ [] own (begun as_written old) c.in_ok-push_left_mark.ensures)
    c.push_left_number.ensures
