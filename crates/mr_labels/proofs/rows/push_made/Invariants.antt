use Rattle.mr_labels.proofs.Common.{◌≡◌, ◌++◌, flat_map, range_with_len, row_at}
use Rattle.mr_labels.proofs.rows.push_made.Given as goal

-- the names before this one have their allocations
abbrev pub invariant-loop-at : goal.invariant-loop-at
invariant-loop-at l =
    l.out.items
    ≡ l.fn.out.items
    ++ flat_map (row_at l.made.names.now l.made.ids.now l.made.asks.now l.made.picks.now) (range_with_len 0 l.at)
