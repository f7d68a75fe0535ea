use Rattle.mr_frame.proofs.Common.{◌≡◌, drop, position_from}
use Rattle.mr_frame.proofs.calls.callee.Given as goal

abbrev pub invariant-loop-number : goal.invariant-loop-number
invariant-loop-number l = position_from 0 l.functions l.p ≡ position_from l.number (drop l.number l.functions) l.p
