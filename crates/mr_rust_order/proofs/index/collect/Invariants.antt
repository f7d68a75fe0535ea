use Rattle.mr_rust_order.proofs.Common.{ℕ, ◌⊎◌, IsListed}
use Rattle.mr_rust_order.proofs.MarkLaws.{rows_of}
use Rattle.mr_rust_order.proofs.index.collect.Given as goal

-- the rows that were found before and those of all marks are found, or their marks are left
abbrev pub invariant-loop-mark : goal.invariant-loop-mark
invariant-loop-mark l =
    record {
      kept : (x : ℕ) → IsListed l.initial.found.items x → IsListed l.found.items x;
      wanted :
          (x : ℕ) → IsListed l.initial.found.items x ⊎ IsListed (rows_of l.initial.mark-iterator) x
          → IsListed l.found.items x ⊎ IsListed (rows_of l.mark-iterator) x;
    }
