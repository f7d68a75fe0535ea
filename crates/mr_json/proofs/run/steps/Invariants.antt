use Rattle.std.specs.Prelude.{◌≡◌, map, take}
use Rattle.serde_json.specs.View.{view}
use Rattle.mr_listing.specs.Seen.{seen}
use Rattle.mr_json.specs.Steps.{step_data}
use Rattle.mr_json.proofs.run.steps.Given as goal

-- the steps before this one have their values
abbrev pub invariant-loop-told : goal.invariant-loop-told
invariant-loop-told l = map view l.list.items ≡ map (step_data (seen l.shown) l.values) (take l.told-index l.steps)
