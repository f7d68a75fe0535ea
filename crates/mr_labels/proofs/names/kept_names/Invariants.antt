use Rattle.mr_labels.proofs.Common.{◌≡◌, ◌∷◌, map}
use Rattle.std.specs.Prelude.{take}
use Rattle.mr_labels.specs.Names.{local_name}
use Rattle.mr_labels.proofs.names.kept_names.Given as goal

-- the returned local and the arguments before this one have their names
abbrev pub invariant-loop-local : goal.invariant-loop-local
invariant-loop-local l = l.names.items ≡ local_name l.stand l.function.ret ∷ map (local_name l.stand) (take l.local-index l.function.args)
