use Rattle.mr_layout.proofs.Common.{◌≡◌, drop, number_twice}
use Rattle.mr_layout.proofs.alike.is_number_in_two.Given as goal

abbrev pub invariant-loop-i : goal.invariant-loop-i
invariant-loop-i l = number_twice l.variants ≡ number_twice (drop l.i l.variants)
