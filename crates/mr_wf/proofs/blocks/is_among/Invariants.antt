use Rattle.mr_wf.proofs.Common.{◌≡◌, drop, LocalName}
use Rattle.std.specs.Prelude.{◌==◌}
use Rattle.std.specs.List.{list_any}
use Rattle.mr_wf.proofs.blocks.is_among.Given as goal

abbrev pub invariant-loop-name : goal.invariant-loop-name
invariant-loop-name l = list_any (λ (y : LocalName). y.0 == l.x.0) l.names ≡ list_any (λ (y : LocalName). y.0 == l.x.0) (drop l.name-index l.names)
