use Rattle.mr_mem.proofs.Common.{◌≡◌, is_leak, entries_of}
use Rattle.std.specs.List.{list_any}
use Rattle.mr_mem.proofs.memory.any_leak.Given as goal

abbrev pub invariant-loop-a : goal.invariant-loop-a
invariant-loop-a l = list_any is_leak (entries_of l.a-iterator) ≡ list_any is_leak (entries_of l.allocations.entries)
