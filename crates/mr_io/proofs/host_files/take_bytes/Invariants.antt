use Rattle.std.proofs.Common.{◌≡◌, ◌+◌, ◌-◌, ◌≤◌, ◌++◌, List, ℕ, length}
use Rattle.mr_io.specs.Host.{Gave}
use Rattle.mr_io.proofs.host_files.take_bytes.Given as goal

abbrev pub invariant-loop-taken : goal.invariant-loop-taken
invariant-loop-taken g l = record {
  within : l.taken ≤ l.max + 1;
  so_far : (bytes : List ℕ) × (length bytes ≡ l.taken) × Gave g.F.Source.gives l.initial.file bytes l.file
      × (l.into.items ≡ l.initial.into.items ++ bytes);
}

abbrev pub decreases-loop-taken : goal.decreases-loop-taken
decreases-loop-taken g l = l.max + 1 - l.taken
