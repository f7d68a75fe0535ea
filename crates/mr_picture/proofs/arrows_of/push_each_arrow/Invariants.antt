use Rattle.mr_picture.proofs.Common.{◌≡◌, ◌++◌, ◌-◌, ◌≤◌, flat_map, map, range_with_len, Tracks, as_written, arrows_to, arrow_mark, scene_in}
use Rattle.mr_picture.proofs.arrows_of.push_each_arrow.Given as goal

-- the arrows to the steps before this one are drawn, and Rust's order of these steps is known
abbrev pub invariant-loop-second : goal.invariant-loop-second
invariant-loop-second l =
    let s = scene_in l.scene in
    record {
      from : s.done.from ≤ l.second;
      to : l.second ≤ s.done.to;
      rust : Tracks s.sketch.feet l.second l.rust;
      drawn :
          l.out.items
          ≡ l.fn.out.items ++ flat_map as_written
          (map (arrow_mark s) (flat_map (arrows_to s.sketch.feet s.done.from) (range_with_len s.done.from (l.second - s.done.from))));
    }
