use Rattle.mr_frame.proofs.Common.{◌≡◌, ◌++◌, drop, Went, on, seen, env_surround, each_valued}
use Rattle.mr_eval.specs.Answers.{Extends}
use Rattle.mr_frame.proofs.values.values.Given as goal

-- the values so far, and those that are left
abbrev pub invariant-loop-arg : goal.invariant-loop-arg
invariant-loop-arg l = record {
  all : each_valued l.m (env_surround l.e) l.args (seen l.fn.n) ≡ on (each_valued l.m (env_surround l.e) (drop l.arg-index l.args) (seen l.n)) (λ xs last. Went (l.row.items ++ xs) last);
  kept : Extends (seen l.fn.n) (seen l.n);
}
