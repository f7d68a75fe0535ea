use Rattle.mr_value.proofs.Common.{◌≡◌, ◌++◌, bytes_of_pieces, part}
use Rattle.mr_value.proofs.decoding.copy_range.Given as goal

abbrev pub invariant-loop-i : goal.invariant-loop-i
invariant-loop-i l = l.out ≡ l.initial.out ++ part l.at l.i (bytes_of_pieces l.v)
