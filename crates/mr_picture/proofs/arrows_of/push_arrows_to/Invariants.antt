use Rattle.mr_picture.proofs.Common.{max, ◌≡◌, ◌++◌, ◌-◌, ◌≤◌, flat_map, map, range_with_len, as_written, arrow_from, arrow_mark, scene_in}
use Rattle.mr_picture.proofs.arrows_of.push_arrows_to.Given as goal

-- the arrows from the steps before this one are drawn
abbrev pub invariant-loop-first : goal.invariant-loop-first
invariant-loop-first l =
    let s = scene_in l.scene in
    record {
      from : s.done.from ≤ l.first;
      to : l.first ≤ max s.done.from l.second;
      drawn :
          l.out.items
          ≡ l.fn.out.items ++ flat_map as_written
          (map (arrow_mark s) (flat_map (arrow_from s.sketch.feet l.second) (range_with_len s.done.from (l.first - s.done.from))));
    }
