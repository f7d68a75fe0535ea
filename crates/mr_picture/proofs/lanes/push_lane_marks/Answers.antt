use Rattle.mr_picture.proofs.Common.{◌≡◌, ℕ, ◌∷◌, [], ◌++◌, ap, subst, as_written, lane_mark, name_mark, rows_end, ◌+◌, OnOk, scene_in}
use Rattle.mr_picture.proofs.Marks.{begun, last_mark, more_mark}
use Rattle.mr_picture.proofs.lanes.push_lane_marks.Goals as goal

pub returns : goal.returns
returns c =
    let s = scene_in c.args.scene.now in
    let old = c.args.out.now.items in
    let lane = lane_mark s c.args.thread in
    let above = name_mark s 86 c.args.thread in
    last_mark as_written c.push_name-2.result old _ _ (lane ∷ above ∷ []) (name_mark s (rows_end s + 18) c.args.thread)
    (more_mark as_written old _ _ (lane ∷ []) above
    (more_mark as_written old old _ [] lane (begun as_written old) c.in_ok-push_lane.ensures)
    c.in_ok-push_name.ensures)
    (subst (λ (y : ℕ). OnOk c.push_name-2.result
    (c.push_name-2.new.out.items ≡ c.push_name.new.out.items ++ as_written (name_mark s y c.args.thread)))
    (ap (λ n. n + 18) c.rows_end-below.ensures) c.push_name-2.ensures)
