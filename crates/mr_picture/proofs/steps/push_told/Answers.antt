use Rattle.mr_picture.proofs.Common.{◌∷◌, [], as_written, scene_in, did_mark, number_mark, stand_mark, step_mark}
use Rattle.mr_picture.proofs.Marks.{begun, last_mark, more_mark}
use Rattle.mr_picture.proofs.steps.push_told.Goals as goal

pub returns : goal.returns
returns c =
    let s = scene_in c.args.scene.now in
    let step = c.args.step.now in
    let old = c.args.out.now.items in
    last_mark as_written c.push_did_mark.result old _ _ (step_mark s step ∷ number_mark s step ∷ stand_mark s step ∷ [])
    (did_mark s step)
    (more_mark as_written old _ _ (step_mark s step ∷ number_mark s step ∷ []) (stand_mark s step)
    (more_mark as_written old _ _ (step_mark s step ∷ []) (number_mark s step)
    (more_mark as_written old old _ [] (step_mark s step) (begun as_written old) c.in_ok-push_step_mark.ensures)
    c.in_ok-push_number_mark.ensures)
    c.in_ok-push_stand_mark.ensures)
    c.push_did_mark.ensures
