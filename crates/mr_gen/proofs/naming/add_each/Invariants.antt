use Rattle.mr_gen.proofs.Common.{◌≡◌, ◌≤◌, ◌+◌, length, map, fold, with_text}
use Rattle.std.proofs.Common.{take}
use Rattle.mr_gen.proofs.naming.add_each.Given as goal

-- the names before this one were added, and each is at most one more
abbrev pub invariant-loop-text : goal.invariant-loop-text
invariant-loop-text l =
    (l.names ≡ fold with_text l.fn.names (map (λ t. t.now) (take l.text-index l.texts))) × (length l.names ≤ length l.fn.names + l.text-index)
