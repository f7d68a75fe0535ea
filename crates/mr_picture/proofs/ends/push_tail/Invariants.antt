use Rattle.mr_picture.proofs.Common.{◌≡◌, ◌++◌, ◌-◌, ◌≤◌, flat_map, as_written, line_marks, scene_in}
use Rattle.mr_picture.proofs.ends.push_tail.Given as goal

-- the lines from this one on complete the text
abbrev pub invariant-loop-number : goal.invariant-loop-number
invariant-loop-number l =
    let s = scene_in l.scene in
    record {
      within : l.number ≤ l.count;
      rest : l.out.items ++ flat_map as_written (line_marks s l.number (l.count - l.number) l.rest)
          ≡ l.fn.out.items ++ flat_map as_written (line_marks s 0 l.count s.sketch.tail);
    }
