use Rattle.std.specs.Prelude.{◌≡◌, map, take}
use Rattle.serde_json.specs.View.{view}
use Rattle.mr_listing.specs.Seen.{seen}
use Rattle.mr_json.specs.Run.{race_data}
use Rattle.mr_json.proofs.run.races.Given as goal

-- the races before this one have their values
abbrev pub invariant-loop-pair : goal.invariant-loop-pair
invariant-loop-pair l = map view l.list.items ≡ map (race_data (seen l.shown)) (take l.pair-index l.races)
