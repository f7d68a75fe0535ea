use Rattle.mr_words.proofs.Common.{◌≡◌, ◌≤◌, ◌+◌, ◌++◌, length, map, take, FunctionNames, each_once}
use Rattle.mr_words.proofs.naming.item_names.Given as goal

abbrev pub invariant-loop-function : goal.invariant-loop-function
invariant-loop-function l =
    (l.names ≡ each_once (l.definitions.globals ++ map (λ (f : FunctionNames). f.name) (take l.function-index l.functions))) × (length l.names ≤ 256 + l.function-index)
