-- Integers and bools, as numbers or truths.
use Rattle.std.specs.Prelude.{false, if◌then◌else◌, Option, None, Some}
use Rattle.mr_ast.specs.declared.types.Num.{Num}
use Rattle.mr_ast.specs.declared.types.Ty.{Ty, out-Ty}
use Rattle.mr_ast.specs.declared.types.Ty.TheOpen.{Ty-F}
use Rattle.mr_ast.specs.declared.types.Variant.{Variant}
use Rattle.mr_value.specs.declared.val.Val.{Val, out-Val}
use Rattle.mr_value.specs.declared.val.Val.TheOpen.{Val-F}
use Rattle.mr_value.specs.Discriminants.{number_of_bits}
use Rattle.mr_eval.specs.declared.scalars.Scalar.{Scalar}
use Rattle.mr_eval.specs.declared.scalars.Scalar.TheVariants.{Number, Truth}

-- the number that an integer is, or the truth of a bool
abbrev pub scalar_layer : Ty-F Ty Variant → Val-F Val → Option Scalar
scalar_layer (Ty-F.Int int) (Val-F.Int bits) = Some (Number (number_of_bits int bits))
scalar_layer Ty-F.Bool (Val-F.Bool b) = Some (Truth b)
scalar_layer _ _ = None

-- what a value of a type is
abbrev pub scalar_as : Ty → Val → Option Scalar
scalar_as t v = scalar_layer (out-Ty t) (out-Val v)

-- a bool counts as 0 or 1
abbrev pub number_of : Scalar → Num
number_of (Number n) = n
number_of (Truth b) = record { neg = false; mag = if b then 1 else 0 }
