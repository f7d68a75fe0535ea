use Rattle.mr_picture.proofs.Common.{◌≡◌, ◌++◌, flat_map, map, take, as_written, race_mark, scene_in}
use Rattle.mr_picture.proofs.links.push_each_race.Given as goal

-- the races before this one are drawn
abbrev pub invariant-loop-race : goal.invariant-loop-race
invariant-loop-race l =
    l.out.items ≡ l.fn.out.items ++ flat_map as_written (map (race_mark (scene_in l.scene)) (take l.race-index l.races))
