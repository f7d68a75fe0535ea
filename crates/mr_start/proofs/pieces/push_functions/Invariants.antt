use Rattle.mr_start.proofs.Common.{◌≡◌, ◌++◌, map, take, piece_of, function_piece}
use Rattle.mr_start.proofs.pieces.push_functions.Given as goal

abbrev pub invariant-loop-function : goal.invariant-loop-function
invariant-loop-function l = map piece_of l.made.items ≡ map piece_of l.fn.made.items ++ map function_piece (take l._function-index l.functions)
