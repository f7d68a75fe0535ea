use Rattle.mr_layout.proofs.Common.{◌≡◌, ◌++◌, take}
use Rattle.mr_layout.specs.Written.{types_of_locals}
use Rattle.mr_layout.proofs.written.add_locals.Given as goal

abbrev pub invariant-loop-local : goal.invariant-loop-local
invariant-loop-local l = l.found ≡ l.fn.found ++ types_of_locals (take l.local-index l.locals)
