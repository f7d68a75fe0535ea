use Rattle.mr_picture.proofs.Common.{◌≡◌, ◌++◌, flat_map, take}
use Rattle.mr_picture.specs.Deeds.{wake_deed}
use Rattle.mr_picture.proofs.deeds.push_woken.Given as goal

-- the threads before this one are told
abbrev pub invariant-loop-thread : goal.invariant-loop-thread
invariant-loop-thread l = l.out.items ≡ l.fn.out.items ++ flat_map wake_deed (take l.thread-index l.woken)
