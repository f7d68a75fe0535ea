use Rattle.mr_listing.proofs.Common.{◌≡◌, ◌++◌, flat_map, take}
use Rattle.mr_listing.specs.Events.{woken_line}
use Rattle.mr_listing.proofs.events.push_woken.Given as goal

-- the threads before this one have their lines
abbrev pub invariant-loop-thread : goal.invariant-loop-thread
invariant-loop-thread l = l.out.items ≡ l.fn.out.items ++ flat_map woken_line (take l.thread-index l.woken)
