use Rattle.mr_gen.proofs.Common.{◌≡◌, ◌≤◌, ◌+◌, ◌-◌, length, fold, with_text, counted_texts}
use Rattle.mr_gen.proofs.naming.add_counted.Given as goal

-- the names before this one were added, and each is at most one more
abbrev pub invariant-loop-k : goal.invariant-loop-k
invariant-loop-k l =
    (l.names ≡ fold with_text l.fn.names (counted_texts l.letter (l.k - 1))) × (length l.names ≤ length l.fn.names + (l.k - 1))
