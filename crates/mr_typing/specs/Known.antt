-- The type that is known, and how the code tells that of an overflowing operator.
use Rattle.std.specs.Prelude.{ℕ, ◌*◌, Bool, false, ◌&&◌, ◌==◌, List, [], ◌∷◌}
use Rattle.mr_ast.specs.declared.types.IntType.{IntType}
use Rattle.mr_ast.specs.declared.types.Ty.{Ty}
use Rattle.mr_ast.specs.declared.types.Ty.TheVariants as ty
use Rattle.mr_ast.specs.declared.types.Ty.TheOpen.{Ty-F}
use Rattle.mr_ast.specs.declared.types.Variant.{Variant}
use Rattle.mr_ast.specs.Integers.{int_size}
use Rattle.mr_typing.specs.declared.known.Known.{Known}
use Rattle.mr_typing.specs.declared.known.Known.TheVariants as known
use Rattle.mr_typing.specs.Types.{overflow_type}
use Rattle.mr_typing.specs.Operands.{is_bool, is_int}

-- the type that is known
abbrev pub ty_of : Known → Ty
ty_of (known.Written t) = t.now
ty_of (known.Int i) = ty.Int i
ty_of known.Bool = ty.Bool
ty_of known.Raw = ty.Raw
ty_of known.FnPtr = ty.FnPtr
ty_of (known.Overflow i) = overflow_type i

-- the fields of what an overflowing operator gives: the integer, and behind it a bool
abbrev pub are_overflow_fields : IntType → List (ℕ × Ty) → Bool
are_overflow_fields i (f ∷ g ∷ []) = (f.0 == 0) && (is_int i f.1 && ((g.0 == int_size i) && is_bool g.1))
are_overflow_fields i _ = false

-- what is written as the type that an overflowing operator gives
abbrev pub is_overflow_layer : IntType → Ty-F Ty Variant → Bool
is_overflow_layer i (Ty-F.Tuple size align fields) =
    (size == 2 * int_size i) && ((align == int_size i) && are_overflow_fields i fields)
is_overflow_layer i _ = false
