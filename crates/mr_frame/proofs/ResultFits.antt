-- A value that fits an intrinsic can be stored as its result.
use Rattle.mr_frame.proofs.Common.{◌≡◌, refl, Option, None, Some, Intrinsic, Ty, Pointer, Val, FitsResult, Operands, OperandsFit, PlaceFits}
use Rattle.mr_frame.proofs.DoSafe.{ValueFits}
use Rattle.mr_frame.proofs.PlainLaws.{PlainResult, plain_intrinsic, plain_ok}

by_parts : (p : Option Pointer) (t : Option Ty) (v : Option Val) → PlaceFits p t → PlainResult t → ValueFits t v → FitsResult p t v
by_parts None None v none plain value = (none, value)
by_parts None (Some t) v none plain value = absurd (cc)
by_parts (Some p) None v there plain value = absurd (no_type there.1)
  where
    no_type : None ≡ Some there.0 → ⊥
    no_type e = cc
by_parts (Some p) (Some t) v there plain value = (t, value.0, refl, value.1, plain_ok t plain, value.2)

pub result_fits : (op : Intrinsic) (o : Operands) (v : Option Val) → OperandsFit op o → ValueFits o.result_type v → FitsResult o.result o.result_type v
result_fits op o v fit value = by_parts o.result o.result_type v fit.place (plain_intrinsic op o.arg_types o.result_type fit.fits).1 value
