use Rattle.mr_wf.proofs.Common.{◌≡◌, drop, map, ty_of, is_scalar_number}
use Rattle.std.specs.List.{list_all}
use Rattle.mr_wf.proofs.intrinsics.are_printed.Given as goal

abbrev pub invariant-loop-t : goal.invariant-loop-t
invariant-loop-t l = list_all is_scalar_number (map ty_of l.args) ≡ list_all is_scalar_number (map ty_of (drop l.t-index l.args))
