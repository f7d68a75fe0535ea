use Rattle.mr_words.proofs.Common.{◌≡◌, map, take, function_names_in, words_of}
use Rattle.mr_words.proofs.definitions.names_of_functions.Given as goal

abbrev pub invariant-loop-function : goal.invariant-loop-function
invariant-loop-function l = l.names.items ≡ map (function_names_in (words_of l.tokens)) (take l.function-index l.functions)
