use Rattle.mr_frame.proofs.Common.{drop, env_surround}
use Rattle.mr_frame.proofs.DoLaws.{Typing}
use Rattle.mr_frame.proofs.dos.types.Given as goal

-- the types so far, and those that are left
abbrev pub invariant-loop-arg : goal.invariant-loop-arg
invariant-loop-arg l = Typing (env_surround l.e) (drop l.arg-index l.args) l.args l.types.items
