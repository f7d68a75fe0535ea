use Rattle.mr_hunt.proofs.Common.{aim_of, is_met}
use Rattle.mr_hunt.proofs.AimLaws.{NoneBefore}
use Rattle.mr_hunt.proofs.aims.first_met.Given as goal

-- none before this one has it
abbrev pub invariant-loop-i : goal.invariant-loop-i
invariant-loop-i l = NoneBefore (is_met (aim_of l.aim) l.places l.p l.most) l.from l.i
