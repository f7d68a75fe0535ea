use Rattle.mr_layout.proofs.Common.{◌≡◌, ◌++◌, take, flat_map}
use Rattle.mr_layout.specs.Written.{types_of_block}
use Rattle.mr_layout.proofs.written.add_function.Given as goal

abbrev pub invariant-loop-block : goal.invariant-loop-block
invariant-loop-block l = l.found ≡ l.initial.found ++ flat_map types_of_block (take l.block-index l.block-items)
