use Rattle.mr_layout.proofs.Common.{◌≡◌, nat_lt, ◌&&◌, every, is_mark, is_some_below}
use Rattle.mr_layout.proofs.marks.is_some.Given as goal

abbrev pub invariant-loop-byte : goal.invariant-loop-byte
invariant-loop-byte l = nat_lt 0 l.most ≡ is_some_below (λ at. every at && is_mark l.table at) l.byte-index
