use Rattle.mr_layout.proofs.Common.{◌≡◌, drop, case_twice}
use Rattle.mr_layout.proofs.alike.is_case_in_two.Given as goal

abbrev pub invariant-loop-i : goal.invariant-loop-i
invariant-loop-i l = case_twice l.cases ≡ case_twice (drop l.i l.cases)
