-- What the intrinsics take and give.
use Rattle.std.specs.Prelude.{Bool, true, false, ◌&&◌, nat_le, List, [], ◌∷◌, Option, None, Some}
use Rattle.std.specs.List.{list_all}
use Rattle.mr_ast.specs.declared.types.IntType.TheVariants.{U32, U64}
use Rattle.mr_ast.specs.declared.types.Ty.{Ty}
use Rattle.mr_ast.specs.declared.types.Ty.TheVariants as ty
use Rattle.mr_ast.specs.declared.program.Intrinsic.{Intrinsic}
use Rattle.mr_ast.specs.declared.program.Intrinsic.TheVariants as intrinsic
use Rattle.mr_layout.specs.Sizes.{size_of}
use Rattle.mr_typing.specs.SameTypes.{same_type}
use Rattle.mr_typing.specs.Operands.{is_bool, is_fn_ptr, is_int, is_integer, is_raw, is_scalar_number}

-- an integer of at most eight bytes
abbrev pub is_atomic : Ty → Bool
is_atomic t = is_integer t && nat_le (size_of t) 8

-- there is no place for a result
abbrev pub gives_nothing : Option Ty → Bool
gives_nothing None = true
gives_nothing (Some t) = false

-- the place for the result has this type
abbrev pub gives : Ty → Option Ty → Bool
gives u None = false
gives u (Some t) = same_type t u

-- the intrinsic that takes any number of arguments
abbrev pub is_print : Intrinsic → Bool
is_print intrinsic.Print = true
is_print _ = false

-- The types of the arguments and of the place for a result, which is missing where nothing is given.
abbrev pub fits_intrinsic : Intrinsic → List Ty → Option Ty → Bool
fits_intrinsic intrinsic.Assume (a ∷ []) result = is_bool a && gives_nothing result
fits_intrinsic intrinsic.Print args result = list_all is_scalar_number args && gives_nothing result
fits_intrinsic intrinsic.Allocate (a ∷ b ∷ []) result = is_int U64 a && (is_int U64 b && gives ty.Raw result)
fits_intrinsic intrinsic.Deallocate (a ∷ b ∷ c ∷ []) result =
    is_raw a && (is_int U64 b && (is_int U64 c && gives_nothing result))
fits_intrinsic intrinsic.Spawn (a ∷ b ∷ []) result = is_fn_ptr a && (is_raw b && gives (ty.Int U32) result)
fits_intrinsic intrinsic.Join (a ∷ []) result = is_int U32 a && gives_nothing result
fits_intrinsic intrinsic.CreateLock [] result = gives (ty.Int U32) result
fits_intrinsic intrinsic.Acquire (a ∷ []) result = is_int U32 a && gives_nothing result
fits_intrinsic intrinsic.Release (a ∷ []) result = is_int U32 a && gives_nothing result
fits_intrinsic intrinsic.AtomicStore (a ∷ b ∷ []) result = is_raw a && (is_atomic b && gives_nothing result)
fits_intrinsic intrinsic.AtomicLoad (a ∷ []) (Some t) = is_raw a && is_atomic t
fits_intrinsic intrinsic.CompareExchange (a ∷ b ∷ c ∷ []) result =
    is_raw a && (is_atomic b && (same_type c b && gives b result))
fits_intrinsic intrinsic.FetchAdd (a ∷ b ∷ []) result = is_raw a && (is_atomic b && gives b result)
fits_intrinsic intrinsic.FetchSub (a ∷ b ∷ []) result = is_raw a && (is_atomic b && gives b result)
fits_intrinsic intrinsic.FetchAnd (a ∷ b ∷ []) result = is_raw a && (is_atomic b && gives b result)
fits_intrinsic intrinsic.FetchOr (a ∷ b ∷ []) result = is_raw a && (is_atomic b && gives b result)
fits_intrinsic intrinsic.FetchXor (a ∷ b ∷ []) result = is_raw a && (is_atomic b && gives b result)
fits_intrinsic intrinsic.Payload [] result = gives ty.Raw result
fits_intrinsic _ args result = false
