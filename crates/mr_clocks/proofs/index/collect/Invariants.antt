use Rattle.mr_clocks.proofs.Common.{ℕ, ◌⊎◌, IsAsked, IsListed}
use Rattle.mr_clocks.proofs.MarkLaws.{rows_of}
use Rattle.mr_clocks.proofs.index.collect.Given as goal

-- what the step asks of the rows found before and of those of all marks is found, or its mark is left
abbrev pub invariant-loop-mark : goal.invariant-loop-mark
invariant-loop-mark l =
    record {
      kept : (x : ℕ) → IsListed l.initial.found.items x → IsListed l.found.items x;
      wanted :
          (x : ℕ) → IsAsked l.step l.rows x → IsListed l.initial.found.items x ⊎ IsListed (rows_of l.initial.mark-iterator) x
          → IsListed l.found.items x ⊎ IsListed (rows_of l.mark-iterator) x;
    }
