use Rattle.mr_listing.proofs.Common.{◌≡◌, ◌++◌, map, take, id_pair}
use Rattle.mr_listing.proofs.leaks.push_ids.Given as goal

-- the identities before this one were added
abbrev pub invariant-loop-id : goal.invariant-loop-id
invariant-loop-id l = l.pairs.items ≡ l.fn.pairs.items ++ map id_pair (take l.id-index l.ids)
