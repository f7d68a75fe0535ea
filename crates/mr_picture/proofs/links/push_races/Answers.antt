use Rattle.mr_picture.proofs.Common.{◌≡◌, ◌++◌, List, ap, subst, sym, take, ◌∙◌, All, OnOk, Pair, IsRace, flat_map, map, as_written, race_mark, races_in, scene_in}
use Rattle.std.proofs.lemmas.List.Elements.{All-take}
use Rattle.mr_picture.proofs.Within.{races_within}
use Rattle.mr_picture.proofs.links.push_races.Goals as goal

pub push_each_race-requires-clause-within : goal.push_each_race-requires-clause-within
push_each_race-requires-clause-within c =
    let s = scene_in c.args.scene.now in
    subst (λ (ps : List Pair). All (IsRace s) ps)
    (sym (c.first_races.ensures ∙ ap (take 6) (c.as_slice.ensures.value ∙ c.in_ok-races.ensures)))
    (All-take (IsRace s) 6 (races_in s.done s.near) (races_within s.sketch.feet s.done s.near c.requires.done))

pub returns : goal.returns
returns c =
    let s = scene_in c.args.scene.now in
    subst (λ (ps : List Pair). OnOk c.push_each_race.result
    (c.push_each_race.new.out.items ≡ c.args.out.now.items ++ flat_map as_written (map (race_mark s) ps)))
    (c.first_races.ensures ∙ ap (take 6) (c.as_slice.ensures.value ∙ c.in_ok-races.ensures)) c.push_each_race.ensures
