use Rattle.mr_words.proofs.Common.{◌≡◌, map, take, text_at, words_of}
use Rattle.mr_words.proofs.definitions.block_names.Given as goal

abbrev pub invariant-loop-block : goal.invariant-loop-block
invariant-loop-block l = map (λ w. w.now) l.names.items ≡ map (λ x. text_at (words_of l.tokens) x.name) (take l.block-index l.blocks)
