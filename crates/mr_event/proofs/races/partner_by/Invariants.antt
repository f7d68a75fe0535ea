use Rattle.mr_event.proofs.Common.{ℕ, ◌≤◌, RacePair}
use Rattle.mr_event.proofs.races.partner_by.Given as goal

abbrev pub invariant-loop-i : goal.invariant-loop-i
invariant-loop-i l = (m : ℕ) → l.i ≤ m → RacePair l.run m l.j → ⊥
