-- The equations of `decoded`, one for each kind of type.
use Rattle.mr_value.proofs.Common.{◌≡◌, ℕ, Bool, true, List, [], ◌∷◌, Option, Some, None, map, refl, sym, ap, ◌∙◌, if◌then◌else◌, option_map, option_and_then, IntType, Num, Tree, Ty, roll-Ty, Ty-F, map-Ty, para-Variant, para-roll-Ty, para-roll-Variant, Variant, out-Variant, size_of, Bytes, number_of, walk, Reader, bool_of, pointer_where, is_not_null, is_aligned, elements_in, chunks_in, decoded, read_fields, read_variant}
use Rattle.mr_value.specs.Decode.{variant_in, decode_step}
use Rattle.mr_ast.specs.declared.types.Ty.TheVariants as ty
use Rattle.mr_value.specs.declared.val.Val.TheVariants as val

unfoldable pub decoded_variant : Variant → Reader
decoded_variant = para-Variant Reader Reader decode_step (λ v. v.ty.1)

decode_roll : (d : Ty-F Ty Variant) (b : Bytes) → decoded (roll-Ty d) b ≡ decode_step (map-Ty Ty Variant (Ty × Reader) (Variant × Reader) (λ t. (t, decoded t)) (λ v. (v, decoded_variant v)) d) b
unfolding decoded decoded_variant
decode_roll d b = ap (λ (r : Reader). r b) (para-roll-Ty Reader Reader decode_step (λ v. v.ty.1) d)

pub decode_int : (i : IntType) (b : Bytes) → decoded (ty.Int i) b ≡ option_map val.Int (number_of b)
decode_int i b = ap (λ t. decoded t b) (sym (ty.rolls-Int i)) ∙ decode_roll (Ty-F.Int i) b

pub decode_bool : (b : Bytes) → decoded ty.Bool b ≡ option_and_then bool_of (number_of b)
decode_bool b = ap (λ t. decoded t b) (sym ty.rolls-Bool) ∙ decode_roll Ty-F.Bool b

pub decode_raw : (b : Bytes) → decoded ty.Raw b ≡ pointer_where (λ addr. true) b
decode_raw b = ap (λ t. decoded t b) (sym ty.rolls-Raw) ∙ decode_roll Ty-F.Raw b

pub decode_fn_ptr : (b : Bytes) → decoded ty.FnPtr b ≡ pointer_where is_not_null b
decode_fn_ptr b = ap (λ t. decoded t b) (sym ty.rolls-FnPtr) ∙ decode_roll Ty-F.FnPtr b

pub decode_ref : (size align : ℕ) (never : Bool) (b : Bytes) → decoded (ty.Ref size align never) b ≡ (if never then None else pointer_where (is_aligned align) b)
decode_ref size align never b = ap (λ t. decoded t b) (sym (ty.rolls-Ref size align never)) ∙ decode_roll (Ty-F.Ref size align never) b

pub decode_tuple : (size align : ℕ) (fields : List (ℕ × Ty)) (b : Bytes) → decoded (ty.Tuple size align fields) b ≡ option_map val.Tuple (read_fields fields b)
decode_tuple size align fields b = ap (λ t. decoded t b) (sym (ty.rolls-Tuple size align fields)) ∙ decode_roll (Ty-F.Tuple size align fields) b

pub decode_array : (count : ℕ) (elem : Ty) (b : Bytes) → decoded (ty.Array count elem) b ≡ option_map val.Tuple (elements_in count (size_of elem) (decoded elem) b)
decode_array count elem b = ap (λ t. decoded t b) (sym (ty.rolls-Array count elem)) ∙ decode_roll (Ty-F.Array count elem) b

pub decode_union : (size align : ℕ) (fields : List (ℕ × Ty)) (chunks : List (ℕ × ℕ)) (b : Bytes) → decoded (ty.Union size align fields chunks) b ≡ Some (val.Union (chunks_in chunks b))
decode_union size align fields chunks b = ap (λ t. decoded t b) (sym (ty.rolls-Union size align fields chunks)) ∙ decode_roll (Ty-F.Union size align fields chunks) b

pub decode_variant : (v : Variant) (b : Bytes) → decoded_variant v b ≡ decoded v.ty b
unfolding decoded decoded_variant
decode_variant v b = ap (λ (r : Reader). r b) (para-roll-Variant Reader Reader decode_step (λ v. v.ty.1) (out-Variant v))

variant_in_is : (variants : List Variant) (b : Bytes) (n : Num) → variant_in (map (λ v. (v, decoded_variant v)) variants) b n ≡ read_variant variants b n
variant_in_is [] b n = refl
variant_in_is (v ∷ variants) b n = rw (decode_variant v b, variant_in_is variants b n)

enum_then : (variants : List Variant) (b : Bytes) (o : Option Num) → option_and_then (variant_in (map (λ v. (v, decoded_variant v)) variants) b) o ≡ option_and_then (read_variant variants b) o
enum_then variants b None = refl
enum_then variants b (Some n) = variant_in_is variants b n

pub decode_enum : (size align : ℕ) (disc : IntType) (variants : List Variant) (tree : Tree) (b : Bytes) → decoded (ty.Enum size align disc variants tree) b ≡ option_and_then (read_variant variants b) (walk tree b)
decode_enum size align disc variants tree b =
    ap (λ t. decoded t b) (sym (ty.rolls-Enum size align disc variants tree)) ∙ decode_roll (Ty-F.Enum size align disc variants tree) b ∙ enum_then variants b (walk tree b)

pub ruleset decode_laws = (decode_int, decode_bool, decode_raw, decode_fn_ptr, decode_ref, decode_tuple, decode_array, decode_union, decode_enum, decode_variant)
