use Rattle.mr_eval.proofs.Common.{◌≡◌, drop, Extends, seen, referred_to}
use Rattle.mr_eval.proofs.targets.refer_all.Given as goal

abbrev pub invariant-loop-target : goal.invariant-loop-target
invariant-loop-target l = record {
  all : referred_to l.m l.targets (seen l.initial.notes) ≡ referred_to l.m (drop l.target-index l.targets) (seen l.notes);
  kept : Extends (seen l.initial.notes) (seen l.notes);
}
