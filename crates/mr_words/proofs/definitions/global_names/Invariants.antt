use Rattle.mr_words.proofs.Common.{◌≡◌, map, take, text_at, words_of}
use Rattle.mr_words.proofs.definitions.global_names.Given as goal

abbrev pub invariant-loop-global : goal.invariant-loop-global
invariant-loop-global l = map (λ w. w.now) l.names.items ≡ map (λ x. text_at (words_of l.tokens) x.name) (take l.global-index l.globals)
