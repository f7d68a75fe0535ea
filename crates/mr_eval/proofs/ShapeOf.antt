-- Values that evaluation makes have the shapes of their types.
use Rattle.mr_eval.proofs.Common.{◌≡◌, ℕ, zero, suc, ◌+◌, ◌-◌, ◌*◌, ◌^◌, ◌≤◌, List, [], ◌∷◌, Option, None, Some, Bool, true, false, length, refl, sym, ap, subst, ◌∙◌, arith, not, ◌&&◌, ◌==◌, nat_lt, nat_le, slice_get, if◌then◌else◌, option_map, length-replicate, same_Some, and_parts, is_signed, is_fitting, int_size, IntType, U8, U16, U32, U64, U128, I8, I16, I32, I64, I128, Num, Ty, out-Ty, roll-Ty, Ty-F, Variant, same_num, size_of, TypeOk, union_ok, with_range_replaced, Val, chunks_in, bits_of_number, blank, encoding_of, Bytes, has_shape, length-encoding_of, has_int, has_tuple, is_type, is_union_layer, field_in, variant_among, variant_in, type_made, same_type_equal, union_layer}
use Rattle.std.specs.Cmp.Derive.{both_true}
use Rattle.std.proofs.lemmas.Bool.Decides.{nat_tests}
use Rattle.mr_layout.proofs.PartFacts.{FieldsOk, PartOk}
use Rattle.mr_layout.proofs.WellFormed.{UnionOk}
use Rattle.mr_base.specs.declared.byte.AbstractByte.TheVariants.{Uninit}
use Rattle.mr_runs.proofs.RangeLaws.{length-with_range_replaced}
use Rattle.mr_value.specs.Shape.{elements_pass, fields_have_shape, variant_has_shape}
use Rattle.mr_base.proofs.Comparisons.{eq_test}
use Rattle.mr_value.proofs.DecodeShape.{length-chunks_in}
use Rattle.mr_value.proofs.ShapeLaws.{has_array, has_enum, has_union}
use Rattle.mr_typing.specs.SameTypes.{same_type}
use Rattle.mr_typing.specs.Operands.{fits_parts, fits_parts_layer, fits_union, fits_variant, match_element, match_fields}
use Rattle.mr_eval.specs.Shapes.{HaveShapes}
use Rattle.mr_ast.specs.declared.types.Ty.TheVariants as ty
use Rattle.mr_value.specs.declared.val.Val.TheVariants as val

abbrev Layer : Type 0
Layer = Ty-F Ty Variant

-- ---- integers

-- a number that fits, with the half and the whole of what a width holds
fits_width : (signed neg : Bool) (mag half whole : ℕ) → half ≤ whole
    → (if signed then (if neg then nat_lt 0 mag && nat_le mag half else nat_lt mag half) else (not neg && nat_lt mag whole)) ≡ true
    → nat_lt (if neg then whole - mag else mag) whole ≡ true
fits_width true true mag half whole le e =
    let p = and_parts (nat_lt 0 mag) (nat_le mag half) e in
    negative p.0 p.1
  where
    negative : nat_lt 0 mag ≡ true → nat_le mag half ≡ true → nat_lt (whole - mag) whole ≡ true
    negative a b = grind (arith, nat_tests)
fits_width true false mag half whole le e = grind (arith, nat_tests)
fits_width false true mag half whole le e = absurd (cc)
fits_width false false mag half whole le e = e

pub int_shape : (i : IntType) (n : Num) → is_fitting i n ≡ true → has_shape (ty.Int i) (val.Int (bits_of_number i n)) ≡ true
int_shape i n e = has_int i (bits_of_number i n) ∙ fits_width (is_signed i) n.neg n.mag (2 ^ (8 * int_size i - 1)) (2 ^ (8 * int_size i)) (half_of i) e
  where
    half_of : (i : IntType) → 2 ^ (8 * int_size i - 1) ≤ 2 ^ (8 * int_size i)
    half_of U8 = omega arith
    half_of U16 = omega arith
    half_of U32 = omega arith
    half_of U64 = omega arith
    half_of U128 = omega arith
    half_of I8 = omega arith
    half_of I16 = omega arith
    half_of I32 = omega arith
    half_of I64 = omega arith
    half_of I128 = omega arith

-- ---- values in a row

pub shapes_length : (ts : List Ty) (xs : List Val) → HaveShapes ts xs → length xs ≡ length ts
shapes_length [] [] h = refl
shapes_length [] (x ∷ xs) h = absurd h
shapes_length (t ∷ ts) [] h = absurd h
shapes_length (t ∷ ts) (x ∷ xs) h = ap suc (shapes_length ts xs h.1)

fields_shaped : (fields : List (ℕ × Ty)) (ts : List Ty) (xs : List Val) → match_fields fields ts ≡ true → HaveShapes ts xs → fields_have_shape fields xs ≡ true
fields_shaped [] [] [] e h = refl
fields_shaped [] [] (x ∷ xs) e h = absurd h
fields_shaped [] (t ∷ ts) xs e h = absurd (cc)
fields_shaped (f ∷ fields) [] xs e h = absurd (cc)
fields_shaped (f ∷ fields) (t ∷ ts) [] e h = absurd h
fields_shaped (f ∷ fields) (t ∷ ts) (x ∷ xs) e h =
    let p = and_parts (same_type t f.1) (match_fields fields ts) e in
    both_true (subst (λ (u : Ty). has_shape u x ≡ true) (same_type_equal t f.1 p.0) h.0) (fields_shaped fields ts xs p.1 h.1)

elements_shaped : (elem : Ty) (ts : List Ty) (xs : List Val) → match_element elem ts ≡ true → HaveShapes ts xs → elements_pass (has_shape elem) xs ≡ true
elements_shaped elem [] [] e h = refl
elements_shaped elem [] (x ∷ xs) e h = absurd h
elements_shaped elem (t ∷ ts) [] e h = absurd h
elements_shaped elem (t ∷ ts) (x ∷ xs) e h =
    let p = and_parts (same_type t elem) (match_element elem ts) e in
    both_true (subst (λ (u : Ty). has_shape u x ≡ true) (same_type_equal t elem p.0) h.0) (elements_shaped elem ts xs p.1 h.1)

-- parts that fit a tuple or an array make one of its values
pub parts_shape : (t : Ty) (ts : List Ty) (xs : List Val) → fits_parts t ts ≡ true → HaveShapes ts xs → has_shape t (val.Tuple xs) ≡ true
parts_shape t ts xs e h = subst (λ (u : Ty). has_shape u (val.Tuple xs) ≡ true) (type_made t) (by_layer (out-Ty t) e)
  where
    by_layer : (x : Layer) → fits_parts_layer x ts ≡ true → has_shape (roll-Ty x) (val.Tuple xs) ≡ true
    by_layer (Ty-F.Tuple size align fields) k =
        ap (λ (u : Ty). has_shape u (val.Tuple xs)) (ty.rolls-Tuple size align fields) ∙ has_tuple size align fields xs ∙ fields_shaped fields ts xs k h
    by_layer (Ty-F.Array count elem) k =
        let p = and_parts (length ts == count) (match_element elem ts) k in
        ap (λ (u : Ty). has_shape u (val.Tuple xs)) (ty.rolls-Array count elem) ∙ has_array count elem xs
        ∙ both_true (ap (λ (n : ℕ). n == count) (shapes_length ts xs h) ∙ p.0) (elements_shaped elem ts xs p.1 h)
    by_layer _ k = absurd (cc)

-- ---- variants

variant_at : (variants : List Variant) (n : Num) (u : Ty) (x : Val) → is_type (variant_among variants n) u ≡ true → has_shape u x ≡ true → variant_has_shape variants n x ≡ true
variant_at [] n u x e h = absurd (cc)
variant_at (v ∷ variants) n u x e h = chosen (same_num v.number n) (λ k. variant_at variants n u x k h) e
  where
    chosen : (b : Bool) → (is_type (variant_among variants n) u ≡ true → variant_has_shape variants n x ≡ true)
        → is_type (if b then Some v.ty else variant_among variants n) u ≡ true → (if b then has_shape v.ty x else variant_has_shape variants n x) ≡ true
    chosen true more k = subst (λ (w : Ty). has_shape w x ≡ true) (same_type_equal u v.ty k) h
    chosen false more k = more k

-- content that fits a variant makes a value of its enum
pub variant_shape : (t : Ty) (n : Num) (u : Ty) (x : Val) → fits_variant t n u ≡ true → has_shape u x ≡ true → has_shape t (val.Variant n x) ≡ true
variant_shape t n u x e h = subst (λ (w : Ty). has_shape w (val.Variant n x) ≡ true) (type_made t) (by_layer (out-Ty t) e)
  where
    by_layer : (l : Layer) → is_type (variant_in l n) u ≡ true → has_shape (roll-Ty l) (val.Variant n x) ≡ true
    by_layer (Ty-F.Enum size align disc variants tree) k =
        ap (λ (w : Ty). has_shape w (val.Variant n x)) (ty.rolls-Enum size align disc variants tree) ∙ has_enum size align disc variants tree n x ∙ variant_at variants n u x k h
    by_layer _ k = absurd (cc)

-- ---- unions

pub field_inside : (size : ℕ) (fields : List (ℕ × Ty)) (k : ℕ) (f : ℕ × Ty) → FieldsOk size fields → slice_get fields k ≡ Some f → PartOk size f.0 f.1
field_inside size [] k f ok e = absurd (cc)
field_inside size (g ∷ fields) zero f ok e = subst (λ (h : ℕ × Ty). PartOk size h.0 h.1) (same_Some g f e) ok.0
field_inside size (g ∷ fields) (suc k) f ok e = field_inside size fields k f ok.1 e

pub replaced_length : (size at : ℕ) (new : Bytes) → at + length new ≤ size → length (with_range_replaced (blank size) at new) ≡ size
replaced_length size at new le =
    let whole : length (blank size) ≡ size = length-replicate size Uninit in
    length-with_range_replaced (blank size) at new (omega (arith, whole)) ∙ whole

-- the bytes that are kept of a union, of which a field is written
pub union_shape : (t : Ty) → TypeOk t → (k : ℕ) (u : Ty) (x : Val) → fits_union t k u ≡ true → has_shape u x ≡ true
    → (bytes : Bytes) × (union_layer (out-Ty t) k x ≡ Some bytes) × (has_shape t (val.Union bytes) ≡ true)
union_shape t ok k u x e h = transported (type_made t) (by_layer (out-Ty t) (subst TypeOk (sym (type_made t)) ok) (and_parts (is_union_layer (out-Ty t)) (is_type (field_in (out-Ty t) k) u) e))
  where
    Made : Layer → Ty → Type 0
    Made l w = (bytes : Bytes) × (union_layer l k x ≡ Some bytes) × (has_shape w (val.Union bytes) ≡ true)

    transported : {w : Ty} → w ≡ t → Made (out-Ty t) w → Made (out-Ty t) t
    transported is made = subst (Made (out-Ty t)) is made

    written : (size align : ℕ) (fields : List (ℕ × Ty)) (chunks : List (ℕ × ℕ)) → UnionOk size align fields chunks → (o : Option (ℕ × Ty)) → slice_get fields k ≡ o
        → is_type (option_map (λ f. f.1) o) u ≡ true → Made (Ty-F.Union size align fields chunks) (ty.Union size align fields chunks)
    written size align fields chunks parts None is k2 = absurd (cc)
    written size align fields chunks parts (Some f) is k2 =
        let part = field_inside size fields k f parts.parts is in
        let same : u ≡ f.1 = same_type_equal u f.1 k2 in
        let shaped : has_shape f.1 x ≡ true = subst (λ (w : Ty). has_shape w x ≡ true) same h in
        let new = encoding_of f.1 x in
        let sized : length new ≡ size_of f.1 = length-encoding_of f.1 part.ok x shaped in
        let whole = with_range_replaced (blank size) f.0 new in
        let inside : f.0 + length new ≤ size = omega (arith, sized, part.inside) in (
          chunks_in chunks whole,
          ap (option_map (λ g. chunks_in chunks (with_range_replaced (blank size) g.0 (encoding_of g.1 x)))) is,
          has_union size align fields chunks (chunks_in chunks whole)
              ∙ eq_test _ _ (length-chunks_in size chunks whole parts.inside (replaced_length size f.0 new inside)),
        )

    by_layer : (l : Layer) → TypeOk (roll-Ty l) → (is_union_layer l ≡ true) × (is_type (field_in l k) u ≡ true) → Made l (roll-Ty l)
    by_layer (Ty-F.Union size align fields chunks) whole p =
        subst (Made (Ty-F.Union size align fields chunks)) (sym (ty.rolls-Union size align fields chunks))
        (written size align fields chunks (union_ok size align fields chunks (subst TypeOk (ty.rolls-Union size align fields chunks) whole)) (slice_get fields k) refl p.1)
    by_layer _ whole p = absurd (cc)
