use Rattle.mr_picture.proofs.Common.{◌≡◌, ◌++◌, flat_map, take, as_written, scene_in, step_marks}
use Rattle.mr_picture.proofs.steps.push_steps.Given as goal

-- the steps before this one are drawn
abbrev pub invariant-loop-step : goal.invariant-loop-step
invariant-loop-step l =
    l.out.items ≡ l.fn.out.items
    ++ flat_map as_written (flat_map (step_marks (scene_in l.scene)) (take l.step-index l.steps))
