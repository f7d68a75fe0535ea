-- Which types the parts of an expression must have.
use Rattle.std.specs.Prelude.{ℕ, Bool, true, false, ◌&&◌, ◌||◌, ◌==◌, List, [], ◌∷◌, length, Option, None, Some}
use Rattle.std.specs.Prelude.{is_some}
use Rattle.mr_ast.specs.declared.types.IntType.{IntType}
use Rattle.mr_ast.specs.declared.types.IntType.TheVariants.{I64}
use Rattle.mr_ast.specs.declared.types.Num.{Num}
use Rattle.mr_ast.specs.declared.types.Ty.{Ty, out-Ty}
use Rattle.mr_ast.specs.declared.types.Ty.TheVariants as ty
use Rattle.mr_ast.specs.declared.types.Ty.TheOpen.{Ty-F}
use Rattle.mr_ast.specs.declared.types.Variant.{Variant}
use Rattle.mr_ast.specs.declared.expr.UnaryOp.{UnaryOp}
use Rattle.mr_ast.specs.declared.expr.UnaryOp.TheVariants as unary
use Rattle.mr_ast.specs.declared.expr.BinaryOp.{BinaryOp}
use Rattle.mr_ast.specs.declared.expr.BinaryOp.TheVariants as binary
use Rattle.mr_layout.specs.Sizes.{size_of}
use Rattle.mr_typing.specs.declared.operands.Operands.{Operands}
use Rattle.mr_typing.specs.declared.operands.Operands.TheVariants.{Integers, Bitwise, Shifted, Compared, Moved}
use Rattle.mr_typing.specs.SameTypes.{same_type}
use Rattle.mr_typing.specs.Types.{field_type, integer_of, variant_type}

-- ---- kinds of types

-- the type is one of integers
abbrev pub is_integer : Ty → Bool
is_integer t = is_some (integer_of t)

-- the outermost layer is bool
abbrev pub is_bool_layer : Ty-F Ty Variant → Bool
is_bool_layer Ty-F.Bool = true
is_bool_layer _ = false

-- the type is bool
abbrev pub is_bool : Ty → Bool
is_bool t = is_bool_layer (out-Ty t)

-- the outermost layer is raw
abbrev pub is_raw_layer : Ty-F Ty Variant → Bool
is_raw_layer Ty-F.Raw = true
is_raw_layer _ = false

-- the type is that of raw pointers
abbrev pub is_raw : Ty → Bool
is_raw t = is_raw_layer (out-Ty t)

-- the outermost layer is that of function pointers
abbrev pub is_fn_ptr_layer : Ty-F Ty Variant → Bool
is_fn_ptr_layer Ty-F.FnPtr = true
is_fn_ptr_layer _ = false

-- the type is that of function pointers
abbrev pub is_fn_ptr : Ty → Bool
is_fn_ptr t = is_fn_ptr_layer (out-Ty t)

-- the outermost layer is that of references
abbrev pub is_ref_layer : Ty-F Ty Variant → Bool
is_ref_layer (Ty-F.Ref size align never) = true
is_ref_layer _ = false

-- the type is one of references
abbrev pub is_ref : Ty → Bool
is_ref t = is_ref_layer (out-Ty t)

-- a raw pointer, a reference or a pointer to a function
abbrev pub is_pointer : Ty → Bool
is_pointer t = is_raw t || (is_ref t || is_fn_ptr t)

-- an integer or a bool
abbrev pub is_scalar_number : Ty → Bool
is_scalar_number t = is_integer t || is_bool t

-- what is written as this integer type
abbrev pub is_int : IntType → Ty → Bool
is_int i t = same_type t (ty.Int i)

-- ---- operators

-- the operand of a unary operator
abbrev pub fits_unary : UnaryOp → Ty → Bool
fits_unary unary.Neg t = is_integer t
fits_unary unary.Not t = is_scalar_number t

-- what the operands of a binary operator are
abbrev pub operands_of : BinaryOp → Operands
operands_of binary.And = Bitwise
operands_of binary.Or = Bitwise
operands_of binary.Xor = Bitwise
operands_of binary.Shl = Shifted
operands_of binary.Shr = Shifted
operands_of binary.ShlUnchecked = Shifted
operands_of binary.ShrUnchecked = Shifted
operands_of binary.Eq = Compared
operands_of binary.Ne = Compared
operands_of binary.Lt = Compared
operands_of binary.Le = Compared
operands_of binary.Gt = Compared
operands_of binary.Ge = Compared
operands_of binary.Offset = Moved
operands_of binary.WrappingOffset = Moved
operands_of _ = Integers

-- the types are those of operands of this sort
abbrev pub fit : Operands → Ty → Ty → Bool
fit Integers left right = is_integer left && same_type left right
fit Bitwise left right = is_scalar_number left && same_type left right
fit Shifted left right = is_integer left && is_integer right
fit Compared left right = (is_scalar_number left || is_raw left) && same_type left right
fit Moved left right = is_raw left && is_int I64 right

-- the types fit the operator
abbrev pub fits_binary : BinaryOp → Ty → Ty → Bool
fits_binary op left right = fit (operands_of op) left right

-- ---- aggregates

-- one type for each field, written alike
abbrev pub match_fields : List (ℕ × Ty) → List Ty → Bool
match_fields [] [] = true
match_fields (f ∷ fields) (t ∷ types) = same_type t f.1 && match_fields fields types
match_fields _ _ = false

-- each of the types is this one
abbrev pub match_element : Ty → List Ty → Bool
match_element elem [] = true
match_element elem (t ∷ types) = same_type t elem && match_element elem types

-- the parts of a tuple or an array
abbrev pub fits_parts_layer : Ty-F Ty Variant → List Ty → Bool
fits_parts_layer (Ty-F.Tuple size align fields) types = match_fields fields types
fits_parts_layer (Ty-F.Array count elem) types = (length types == count) && match_element elem types
fits_parts_layer _ types = false

-- values of these types make a value of the type
abbrev pub fits_parts : Ty → List Ty → Bool
fits_parts t types = fits_parts_layer (out-Ty t) types

-- a type is this one, where there is one
abbrev pub is_type : Option Ty → Ty → Bool
is_type None t = false
is_type (Some u) t = same_type t u

-- the outermost layer is a union
abbrev pub is_union_layer : Ty-F Ty Variant → Bool
is_union_layer (Ty-F.Union size align fields chunks) = true
is_union_layer _ = false

-- the field of a union
abbrev pub fits_union : Ty → ℕ → Ty → Bool
fits_union t n field = is_union_layer (out-Ty t) && is_type (field_type t n) field

-- the content of a variant
abbrev pub fits_variant : Ty → Num → Ty → Bool
fits_variant t n content = is_type (variant_type t n) content

-- as many bytes
abbrev pub same_size : Ty → Ty → Bool
same_size t u = size_of t == size_of u
