use Rattle.mr_start.proofs.Common.{◌≡◌, ◌++◌, map, take, piece_of, global_piece}
use Rattle.mr_start.proofs.pieces.push_globals.Given as goal

abbrev pub invariant-loop-global : goal.invariant-loop-global
invariant-loop-global l = map piece_of l.made.items ≡ map piece_of l.fn.made.items ++ map global_piece (take l.global-index l.globals)
