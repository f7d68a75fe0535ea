use Rattle.std.proofs.Common.{ℕ, ◌<◌, Bor, get_or}
use Rattle.mr_ast.specs.declared.types.Ty.{Ty}
use Rattle.mr_layout.specs.TypeOk.{TypeOk}
use Rattle.mr_data_tests.proofs.caches.cache_of.Given as goal

abbrev pub invariant-loop-t : goal.invariant-loop-t
invariant-loop-t l = (k : ℕ) (d : Bor Ty) → k < l.t-index → TypeOk (get_or l.t-items k d).now
