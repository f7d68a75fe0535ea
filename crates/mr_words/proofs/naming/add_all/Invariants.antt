use Rattle.mr_words.proofs.Common.{◌≡◌, ◌≤◌, ◌+◌, length, map, take, fold, with_text}
use Rattle.mr_words.proofs.naming.add_all.Given as goal

abbrev pub invariant-loop-text : goal.invariant-loop-text
invariant-loop-text l =
    (l.names ≡ fold with_text l.fn.names (map (λ w. w.now) (take l.text-index l.texts))) × (length l.names ≤ length l.fn.names + l.text-index)
