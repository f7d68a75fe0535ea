use Rattle.mr_event.proofs.Common.{◌≡◌, ◌≤◌, vec_len}
use Rattle.std.specs.Prelude.{vec_capacity}
use Rattle.mr_event.proofs.latest.no_steps.Given as goal

abbrev pub invariant-loop-k : goal.invariant-loop-k
invariant-loop-k l = (vec_len l.late ≡ l.k) × (257 ≤ vec_capacity l.late)
