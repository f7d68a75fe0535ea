use Rattle.mr_next.proofs.Common.{◌≡◌, ◌++◌, flat_map, range_with_len, numbered_thread}
use Rattle.mr_next.proofs.texts.push_threads.Given as goal

-- the threads before this one are written
abbrev pub invariant-loop-at : goal.invariant-loop-at
invariant-loop-at l = l.out.items ≡ l.fn.out.items ++ flat_map (numbered_thread l.threads) (range_with_len 0 l.at)
