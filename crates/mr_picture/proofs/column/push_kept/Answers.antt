use Rattle.mr_picture.proofs.Common.{◌∷◌, [], as_written, kept_mark, kept_number, scene_in}
use Rattle.mr_picture.proofs.Marks.{begun, last_mark, more_mark}
use Rattle.mr_picture.proofs.column.push_kept.Goals as goal

pub returns : goal.returns
returns c =
    let s = scene_in c.args.scene.now in
    let old = c.args.out.now.items in
    let own = kept_mark s c.args.race c.args.row c.args.step in
    last_mark as_written c.push_kept_number.result old _ _ (own ∷ []) (kept_number s c.args.row c.args.step)
    (more_mark as_written old old _ [] own (begun as_written old) c.in_ok-push_kept_mark.ensures)
    c.push_kept_number.ensures
