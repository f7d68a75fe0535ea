use Rattle.mr_layout.proofs.Common.{◌≡◌, ◌++◌, take, types_of_values}
use Rattle.mr_layout.proofs.written.+add_expr.Given as goal

abbrev pub invariant-add_values-loop-value : goal.invariant-add_values-loop-value
invariant-add_values-loop-value l = l.found ≡ l.fn.found ++ types_of_values (take l.value-index l.values)
