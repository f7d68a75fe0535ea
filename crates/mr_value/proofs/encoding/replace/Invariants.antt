use Rattle.mr_value.proofs.Common.{◌≡◌, take, with_range_replaced}
use Rattle.mr_value.proofs.encoding.replace.Given as goal

abbrev pub invariant-loop-i : goal.invariant-loop-i
invariant-loop-i l = l.bytes.items ≡ with_range_replaced l.initial.bytes.items l.at (take l.i l.piece)
