use Rattle.mr_picture.proofs.Common.{as_written, scene_in, step_marks}
use Rattle.mr_picture.proofs.Marks.{marks_behind}
use Rattle.mr_picture.proofs.steps.push_steps.Goals as goal

pub loop-step-preserved : goal.loop-step-preserved
loop-step-preserved c =
    marks_behind as_written (step_marks (scene_in c.args.scene.now)) c.args.out.now.items c.loop-step.out.items
    c.push_step.new.out.items (scene_in c.args.scene.now).steps c.loop-step.step-index c.step-item.result
    c.loop-step-test.true c.step-item.is c.loop-step.invariant c.in_ok-push_step.ensures
