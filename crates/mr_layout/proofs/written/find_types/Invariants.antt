use Rattle.mr_layout.proofs.Common.{◌≡◌, take, flat_map}
use Rattle.mr_layout.specs.Written.{types_of_function}
use Rattle.mr_layout.proofs.written.find_types.Given as goal

abbrev pub invariant-loop-function : goal.invariant-loop-function
invariant-loop-function l = l.found ≡ flat_map types_of_function (take l.function-index l.function-items)
