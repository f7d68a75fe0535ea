-- Types with their sizes and alignments, whether they have a value, their used bytes, and which types are written with them, computed.
use Rattle.mr_layout.proofs.Common.{◌≡◌, ℕ, ◌*◌, Bool, true, false, [], ◌∷◌, sym, ap, ◌∙◌, not, U8, U16, U32, I16, I128, Ty, Ty-F, fold-roll-Ty, is_used, types_of, types_of_place, types_of_value, size_of, align_of, is_inhabited, inhabited_step, variant_step}
use Rattle.mr_ast.specs.declared.types.Ty.TheVariants as ty
use Rattle.mr_ast.specs.declared.expr.Place.TheVariants as place
use Rattle.mr_ast.specs.declared.expr.Value.TheVariants as value
use Rattle.mr_layout.proofs.SizeLaws.{size_int, size_tuple, size_array}
use Rattle.mr_layout.proofs.AlignLaws.{align_int, align_tuple, align_array}
use Rattle.mr_layout.proofs.UsedLaws.{used_laws}
use Rattle.mr_layout.proofs.WrittenLaws.{parts_laws, written_laws}

-- a byte
byte_size : size_of (ty.Int U8) ≡ 1
byte_size = size_int U8

byte_alignment : align_of (ty.Int U8) ≡ 1
byte_alignment = align_int U8

-- the widest integer
i128_size : size_of (ty.Int I128) ≡ 16
i128_size = size_int I128

i128_alignment : align_of (ty.Int I128) ≡ 16
i128_alignment = align_int I128

abbrev unit : Ty
unit = ty.Tuple 0 1 []

unit_size : size_of unit ≡ 0
unit_size = size_tuple 0 1 []

unit_alignment : align_of unit ≡ 1
unit_alignment = align_tuple 0 1 []

-- three numbers of two bytes
abbrev three : Ty
three = ty.Array 3 (ty.Int U16)

array_size : size_of three ≡ 6
array_size = size_array 3 (ty.Int U16) ∙ ap (λ n. 3 * n) (size_int U16)

array_alignment : align_of three ≡ 2
array_alignment = align_array 3 (ty.Int U16) ∙ align_int U16

inhabited_ref : (size align : ℕ) (never : Bool) → is_inhabited (ty.Ref size align never) ≡ not never
inhabited_ref size align never = ap is_inhabited (sym (ty.rolls-Ref size align never)) ∙ fold-roll-Ty Bool Bool inhabited_step variant_step (Ty-F.Ref size align never)

-- a reference to what has no value has none
reference_to_a_value : is_inhabited (ty.Ref 2 2 false) ≡ true
reference_to_a_value = inhabited_ref 2 2 false

reference_to_none : is_inhabited (ty.Ref 0 1 true) ≡ false
reference_to_none = inhabited_ref 0 1 true

-- a number of four bytes and a bool behind it, in eight bytes
abbrev pair : Ty
pair = ty.Tuple 8 4 ((0, ty.Int U32) ∷ (4, ty.Bool) ∷ [])

-- an array of pairs is written with the pair, and the pair with its fields
written_pairs : types_of (ty.Array 3 pair) ≡ ty.Array 3 pair ∷ pair ∷ ty.Int U32 ∷ ty.Bool ∷ []
written_pairs = simp parts_laws

-- `deref raw 8: i16`
written_in_a_place : types_of_place (place.Deref (value.Raw 8) (ty.Int I16)) ≡ ty.Int I16 ∷ []
written_in_a_place = simp (written_laws, parts_laws)

-- `transmute raw 8: bool`
written_in_a_value : types_of_value (value.Transmute ty.Bool (value.Raw 8)) ≡ ty.Bool ∷ []
written_in_a_value = simp (written_laws, parts_laws)

-- the bool carries a part of the value, and the byte behind it doesn't
bool_of_pair : is_used pair 4 ≡ true
bool_of_pair = simp used_laws

behind_the_bool : is_used pair 5 ≡ false
behind_the_bool = simp used_laws
