use Rattle.mr_layout.proofs.Common.{◌≡◌, ◌++◌, take, flat_map}
use Rattle.mr_layout.specs.Written.{types_of_stmt}
use Rattle.mr_layout.proofs.written.add_block.Given as goal

abbrev pub invariant-loop-stmt : goal.invariant-loop-stmt
invariant-loop-stmt l = l.found ≡ l.fn.found ++ flat_map types_of_stmt (take l.stmt-index l.stmt-items)
