use Rattle.mr_words.proofs.Common.{◌≡◌, map, take, text_at, words_of}
use Rattle.mr_words.proofs.definitions.local_names.Given as goal

abbrev pub invariant-loop-local : goal.invariant-loop-local
invariant-loop-local l = map (λ w. w.now) l.names.items ≡ map (λ x. text_at (words_of l.tokens) x.name) (take l.local-index l.locals)
