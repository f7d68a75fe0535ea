-- What stands among the arguments of an intrinsic.
use Rattle.std.specs.Prelude.{◌≡◌, ℕ, ◌<◌, ◌^◌, Bool, List, Option, Some, slice_get}
use Rattle.mr_ast.specs.declared.types.IntType.{IntType}
use Rattle.mr_ast.specs.declared.types.Ty.{Ty}
use Rattle.mr_ast.specs.declared.types.Ty.TheVariants as ty
use Rattle.mr_base.specs.declared.byte.Pointer.{Pointer}
use Rattle.mr_value.specs.declared.val.Val.{Val}
use Rattle.mr_value.specs.declared.val.Val.TheVariants as val
use Rattle.mr_intr.specs.Effects.{listed}

pub record HasTruth (args : List Val) (at : ℕ) : Type 0 where
  pub truth : Bool
  pub is : slice_get args at ≡ Some (val.Bool truth)

pub record HasPointer (args : List Val) (at : ℕ) : Type 0 where
  pub pointer : Pointer
  pub is : slice_get args at ≡ Some (val.Ptr pointer)

-- a number of so many bits at most
pub record HasNumber (width : ℕ) (args : List Val) (at : ℕ) : Type 0 where
  pub number : ℕ
  pub is : slice_get args at ≡ Some (val.Int number)
  pub small : number < 2 ^ width

-- an integer type is there
pub record HasInteger (place : Option Ty) : Type 0 where
  pub int : IntType
  pub is : place ≡ Some (ty.Int int)

-- the picks name one of so many threads, or none
pub record PicksThread (threads : ℕ) (picks : List ℕ) : Type 0 where
  pub to : Option ℕ
  pub is : picks ≡ listed to
  pub known : (u : ℕ) → to ≡ Some u → u < threads
