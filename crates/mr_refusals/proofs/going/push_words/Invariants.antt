use Rattle.std.proofs.Common.{◌≡◌, ◌++◌, map, take}
use Rattle.std.specs.Prelude.{flat_map}
use Rattle.mr_refusals.specs.Going.{word_told}
use Rattle.mr_refusals.proofs.going.push_words.Given as goal

-- those of the words before this one that go are told
abbrev pub invariant-loop-word : goal.invariant-loop-word
invariant-loop-word l =
    l.out.items
    ≡ l.fn.out.items ++ flat_map (word_told l.front l.line) (map (λ w. w.now) (take l.word-index l.words))
