use Rattle.mr_next.proofs.Common.{◌≡◌, ◌++◌, flat_map, range_with_len, numbered_text}
use Rattle.mr_next.proofs.texts.push_each.Given as goal

-- the threads before this one have their lines
abbrev pub invariant-loop-thread : goal.invariant-loop-thread
invariant-loop-thread l =
    l.out.items ≡ l.fn.out.items ++ flat_map (numbered_text l.p l.new l.positions l.prospects) (range_with_len 0 l.thread)
