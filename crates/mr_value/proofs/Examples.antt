-- The bytes of some values, computed.
use Rattle.mr_value.proofs.Common.{◌≡◌, ℕ, true, false, List, [], ◌∷◌, Option, Some, None, refl, Num, Tag, Ty, AllocId, Uninit, Init, Bytes, little_endian, pointer, number_of_bits, bits_of_number, decoded, encoding_of, is_faithful, has_shape}
use Rattle.mr_ast.specs.declared.types.IntType.TheVariants.{U8, U16, U32, I8, I16}
use Rattle.mr_layout.proofs.SizeLaws.{size_laws}
use Rattle.mr_ast.specs.declared.types.Tree.TheVariants as tree
use Rattle.mr_ast.specs.declared.types.Ty.TheVariants as ty
use Rattle.mr_value.specs.declared.val.Val.TheVariants as val
use Rattle.mr_value.proofs.DecodeLaws.{decode_laws}
use Rattle.mr_value.proofs.EncodeLaws.{encode_laws}
use Rattle.mr_value.proofs.FaithfulLaws.{faithful_laws}
use Rattle.mr_value.proofs.ShapeLaws.{shape_laws}
use Rattle.mr_value.proofs.WalkLaws.{walk_laws}

abbrev number : ℕ → Num
number n = record { neg = false; mag = n }

abbrev plain : List ℕ → Bytes
plain [] = []
plain (n ∷ ns) = Init n None ∷ plain ns

abbrev owner : ℕ → Option AllocId
owner thread = Some record { thread = thread; count = 0 }

-- a byte and, behind three bytes of padding, four more
abbrev pair : Ty
pair = ty.Tuple 8 4 ((0, ty.Int U8) ∷ (4, ty.Int U32) ∷ [])

abbrev tag_of : ℕ → List Tag
tag_of n = record { at = 0; int = U8; number = number n } ∷ []

-- nothing or a byte, told apart by the first byte
abbrev maybe : Ty
maybe =
    ty.Enum 2 1 U8 (record { number = number 0; ty = ty.Tuple 2 1 []; tags = tag_of 0 } ∷ record { number = number 1; ty = ty.Tuple 2 1 ((1, ty.Int U8) ∷ []); tags = tag_of 1 } ∷ [])
    (tree.Branch 0 U8 ((number 0, tree.Known (number 0)) ∷ (number 1, tree.Known (number 1)) ∷ []) tree.Invalid)

-- four bytes of which one has a provenance
int_drops_provenance : decoded (ty.Int U32) (Init 1 (owner 0) ∷ plain (2 ∷ 0 ∷ 0 ∷ [])) ≡ Some (val.Int 513)
int_drops_provenance = simp decode_laws

minus_one : number_of_bits I8 255 ≡ record { neg = true; mag = 1 }
minus_one = refl

minus_two_in_bits : bits_of_number I16 record { neg = true; mag = 2 } ≡ 65534
minus_two_in_bits = refl

lowest_byte_first : little_endian 2 513 ≡ 1 ∷ 2 ∷ []
lowest_byte_first = refl

pair_of_bytes : decoded pair (Init 1 None ∷ Uninit ∷ Uninit ∷ Uninit ∷ plain (2 ∷ 0 ∷ 0 ∷ 0 ∷ [])) ≡ Some (val.Tuple (val.Int 1 ∷ val.Int 2 ∷ []))
pair_of_bytes = simp (decode_laws, size_laws)

pair_in_bytes : encoding_of pair (val.Tuple (val.Int 1 ∷ val.Int 2 ∷ [])) ≡ Init 1 None ∷ Uninit ∷ Uninit ∷ Uninit ∷ plain (2 ∷ 0 ∷ 0 ∷ 0 ∷ [])
pair_in_bytes = simp encode_laws

byte_of_bytes : decoded maybe (plain (1 ∷ 9 ∷ [])) ≡ Some (val.Variant (number 1) (val.Tuple (val.Int 9 ∷ [])))
byte_of_bytes = simp (decode_laws, walk_laws, size_laws)

nothing_of_bytes : decoded maybe (Init 0 None ∷ Uninit ∷ []) ≡ Some (val.Variant (number 0) (val.Tuple []))
nothing_of_bytes = simp (decode_laws, walk_laws, size_laws)

no_variant : decoded maybe (plain (2 ∷ 9 ∷ [])) ≡ None
no_variant = simp (decode_laws, walk_laws, size_laws)

no_discriminant : decoded maybe (Uninit ∷ Init 9 None ∷ []) ≡ None
no_discriminant = simp (decode_laws, walk_laws, size_laws)

nothing_in_bytes : encoding_of maybe (val.Variant (number 0) (val.Tuple [])) ≡ Init 0 None ∷ Uninit ∷ []
nothing_in_bytes = simp encode_laws

byte_in_bytes : encoding_of maybe (val.Variant (number 1) (val.Tuple (val.Int 9 ∷ []))) ≡ plain (1 ∷ 9 ∷ [])
byte_in_bytes = simp encode_laws

-- a union keeps the bytes of its chunks
union_of_bytes : decoded (ty.Union 4 2 ((0, ty.Int U8) ∷ (2, ty.Int U16) ∷ []) ((0, 1) ∷ (2, 2) ∷ [])) (Uninit ∷ plain (1 ∷ 2 ∷ 3 ∷ [])) ≡ Some (val.Union (Uninit ∷ plain (2 ∷ 3 ∷ [])))
union_of_bytes = simp decode_laws

-- of two provenances none is kept
mixed_provenance : decoded ty.Raw (Init 16 (owner 0) ∷ Init 0 (owner 1) ∷ plain (0 ∷ 0 ∷ 0 ∷ 0 ∷ 0 ∷ 0 ∷ [])) ≡ Some (val.Ptr (pointer 16 None))
mixed_provenance = simp decode_laws

bool_too_large : decoded ty.Bool (plain (2 ∷ [])) ≡ None
bool_too_large = simp decode_laws

null_function : decoded ty.FnPtr (plain (0 ∷ 0 ∷ 0 ∷ 0 ∷ 0 ∷ 0 ∷ 0 ∷ 0 ∷ [])) ≡ None
null_function = simp decode_laws

misaligned : decoded (ty.Ref 4 4 false) (plain (2 ∷ 0 ∷ 0 ∷ 0 ∷ 0 ∷ 0 ∷ 0 ∷ 0 ∷ [])) ≡ None
misaligned = simp decode_laws

uninhabited : decoded (ty.Ref 0 1 true) (plain (1 ∷ 0 ∷ 0 ∷ 0 ∷ 0 ∷ 0 ∷ 0 ∷ 0 ∷ [])) ≡ None
uninhabited = simp decode_laws

-- 256 is none of a byte's numbers
byte_is_small : has_shape (ty.Int U8) (val.Int 256) ≡ false
byte_is_small = simp shape_laws

-- a null reference has the shape, and isn't read back
null_is_shaped : has_shape (ty.Ref 4 4 false) (val.Ptr (pointer 0 None)) ≡ true
null_is_shaped = simp shape_laws

null_is_not_faithful : is_faithful (ty.Ref 4 4 false) (val.Ptr (pointer 0 None)) ≡ false
null_is_not_faithful = simp faithful_laws

aligned_is_faithful : is_faithful (ty.Ref 4 4 false) (val.Ptr (pointer 8 None)) ≡ true
aligned_is_faithful = simp faithful_laws
