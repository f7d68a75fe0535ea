use Rattle.mr_words.proofs.Common.{◌≡◌, ◌≤◌, ◌+◌, ◌++◌, length, take, flat_map, each_once, names_in}
use Rattle.std.proofs.Common.{◌*◌}
use Rattle.mr_words.proofs.naming.names_of.Given as goal

abbrev pub invariant-loop-function : goal.invariant-loop-function
invariant-loop-function l =
    (l.names ≡ each_once (l.definitions.globals ++ flat_map names_in (take l.function-index l.functions))) × (length l.names ≤ 256 + 1281 * l.function-index)
