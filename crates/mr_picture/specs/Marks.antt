-- The marks of a picture, but for its legend.
use Rattle.std.specs.Prelude.{List, ◌++◌, flat_map, map}
use Rattle.mr_svg.specs.Svg.{Mark}
use Rattle.mr_picture.specs.Arrows.{arrows}
use Rattle.mr_picture.specs.Column.{column_marks}
use Rattle.mr_picture.specs.Ends.{head_marks, line_marks}
use Rattle.mr_picture.specs.Grid.{tail_count}
use Rattle.mr_picture.specs.Lanes.{lane_marks}
use Rattle.mr_picture.specs.Links.{arrow_mark, drawn_races, race_mark}
use Rattle.mr_picture.specs.Scene.{Scene}
use Rattle.mr_picture.specs.Span.{steps_in}
use Rattle.mr_picture.specs.Steps.{row_marks, step_marks}

-- the witness's column, and what is written above and below
abbrev pub round_marks : Scene → List Mark
round_marks s = column_marks s s.first ++ head_marks s ++ line_marks s 0 (tail_count s) s.sketch.tail

-- THE MARKS OF A RUN: the rows, the lanes, the races, the arrows, the steps, and those round them
abbrev pub drawn_marks : Scene → List Mark
drawn_marks s =
    flat_map (row_marks s) (steps_in s.span)
    ++ flat_map (lane_marks s) s.threads
    ++ map (race_mark s) (drawn_races s)
    ++ map (arrow_mark s) (arrows s.sketch.feet s.done)
    ++ flat_map (step_marks s) s.steps
    ++ round_marks s
