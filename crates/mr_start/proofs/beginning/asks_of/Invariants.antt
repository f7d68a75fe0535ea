use Rattle.mr_start.proofs.Common.{◌≡◌, map, take, piece_of, ask_of}
use Rattle.mr_start.proofs.beginning.asks_of.Given as goal

abbrev pub invariant-loop-piece : goal.invariant-loop-piece
invariant-loop-piece l = l.asks.items ≡ map ask_of (map piece_of (take l.piece-index l.pieces))
