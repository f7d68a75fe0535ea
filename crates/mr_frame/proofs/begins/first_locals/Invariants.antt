use Rattle.mr_frame.proofs.Common.{◌≡◌, ◌+◌, drop, length, None, replicate, with_each, kept_locals}
use Rattle.mr_frame.proofs.begins.first_locals.Given as goal

-- the locals so far, and those that get storage still
abbrev pub invariant-loop-k : goal.invariant-loop-k
invariant-loop-k l = record {
  len : length l.locals.items ≡ length l.function.locals;
  so_far : with_each (replicate (length l.function.locals) None) (kept_locals l.function) l.pointers ≡ with_each l.locals.items (drop l.k l.names) (drop (l.k + 1) l.pointers);
}
