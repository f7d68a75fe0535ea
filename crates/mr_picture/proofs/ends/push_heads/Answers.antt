use Rattle.mr_picture.proofs.Common.{◌∷◌, [], as_written, scene_in, part_mark, title_mark}
use Rattle.mr_picture.specs.Ends.{names_marks}
use Rattle.mr_picture.proofs.Marks.{begun, last_marks, more_mark}
use Rattle.mr_picture.proofs.ends.push_heads.Goals as goal

pub returns : goal.returns
returns c =
    let s = scene_in c.args.scene.now in
    let old = c.args.out.now.items in
    last_marks as_written c.push_names.result old _ _ (title_mark s ∷ part_mark s ∷ []) (names_marks s)
    (more_mark as_written old _ _ (title_mark s ∷ []) (part_mark s)
    (more_mark as_written old old _ [] (title_mark s) (begun as_written old) c.in_ok-push_title.ensures)
    c.in_ok-push_part.ensures)
    c.push_names.ensures
