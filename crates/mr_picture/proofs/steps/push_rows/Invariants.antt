use Rattle.mr_picture.proofs.Common.{◌≡◌, ◌++◌, ◌-◌, ◌≤◌, flat_map, max, range_with_len, as_written, scene_in, row_marks}
use Rattle.mr_picture.proofs.steps.push_rows.Given as goal

-- the rows before this one are drawn
abbrev pub invariant-loop-step : goal.invariant-loop-step
invariant-loop-step l =
    let s = scene_in l.scene in
    record {
      from : s.span.from ≤ l.step;
      to : l.step ≤ max s.span.from s.span.to;
      drawn : l.out.items ≡ l.fn.out.items
          ++ flat_map as_written (flat_map (row_marks s) (range_with_len s.span.from (l.step - s.span.from)));
    }
