use Rattle.mr_picture.proofs.Common.{◌≡◌, ◌++◌, flat_map, take, as_written, lane_marks, scene_in}
use Rattle.mr_picture.proofs.lanes.push_lanes.Given as goal

-- the lanes before this one are drawn
abbrev pub invariant-loop-thread : goal.invariant-loop-thread
invariant-loop-thread l =
    l.out.items ≡ l.fn.out.items
    ++ flat_map as_written (flat_map (lane_marks (scene_in l.scene)) (take l.thread-index l.threads))
