use Rattle.std.specs.Prelude.{◌≡◌, map, option_copied}
use Rattle.std.specs.List.{range_with_len}
use Rattle.serde_json.specs.View.{view}
use Rattle.mr_listing.specs.Seen.{seen}
use Rattle.mr_json.specs.Accesses.{access_at}
use Rattle.mr_json.proofs.accesses.accesses.Given as goal

-- the accesses before this one have their values
abbrev pub invariant-loop-at : goal.invariant-loop-at
invariant-loop-at l =
    map view l.list.items ≡ map (access_at (seen l.shown) (option_copied l.values) l.accesses) (range_with_len 0 l.at)
