use Rattle.mr_event.proofs.Common.{◌≡◌, length, take}
use Rattle.mr_event.proofs.likeness.same_ids.Given as goal

abbrev pub invariant-loop-i : goal.invariant-loop-i
invariant-loop-i l = (length l.a ≡ length l.b) × (take l.i l.a ≡ take l.i l.b)
