use Rattle.mr_picture.proofs.Common.{◌++◌, as_written, scene_in, flat_map, map, arrows, drawn_races, steps_in, lane_marks, arrow_mark, race_mark, round_marks, row_marks, step_marks}
use Rattle.mr_picture.proofs.Marks.{last_marks, more_marks}
use Rattle.mr_picture.proofs.drawing.push_drawn.Goals as goal

pub returns : goal.returns
returns c =
    let s = scene_in c.args.scene.now in
    let old = c.args.out.now.items in
    let rows = flat_map (row_marks s) (steps_in s.span) in
    let lanes = flat_map (lane_marks s) s.threads in
    let links = map (arrow_mark s) (arrows s.sketch.feet s.done) in
    let races = map (race_mark s) (drawn_races s) in
    let steps = flat_map (step_marks s) s.steps in
    last_marks as_written c.push_round.result old _ _ (rows ++ lanes ++ races ++ links ++ steps) (round_marks s)
    (more_marks as_written old _ _ (rows ++ lanes ++ races ++ links) steps
    (more_marks as_written old _ _ (rows ++ lanes ++ races) links
    (more_marks as_written old _ _ (rows ++ lanes) races
    (more_marks as_written old _ _ rows lanes c.in_ok-push_rows.ensures c.in_ok-push_lanes.ensures)
    c.in_ok-push_races.ensures)
    c.in_ok-push_arrows.ensures)
    c.in_ok-push_steps.ensures)
    c.push_round.ensures
