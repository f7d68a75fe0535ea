-- Numbers that were met.
use Rattle.std.specs.Prelude.{Bool, if◌then◌else◌}
use Rattle.std.specs.Ordering.{nat_cmp}
use Rattle.std.specs.BTreeSet.{contains}
use Rattle.mr_ast.specs.declared.types.Num.{Num}
use Rattle.mr_wf.specs.declared.seen.Seen.{Seen}

-- a number is among them
abbrev pub has : Seen → Num → Bool
has seen n = contains nat_cmp (if n.neg then seen.negative else seen.positive) n.mag
