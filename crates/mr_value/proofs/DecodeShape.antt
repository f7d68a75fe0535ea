-- What bytes mean at a type has the type's shape.
use Rattle.mr_value.proofs.Common.{◌≡◌, ℕ, zero, suc, ◌+◌, ◌*◌, ◌%◌, ◌^◌, ◌<◌, ◌≤◌, Bool, true, false, List, [], ◌∷◌, length, take, drop, Some, None, refl, sym, subst, ap, ◌∙◌, arith, length-append, length-take, length-drop, ◌&&◌, if◌then◌else◌, option_map, Num, Ty, Variant, AllFields, AllVariants, TypeCases, type_induction, Pointer, Uninit, Init, size_of, int_size, same_num, FieldsOk, ChunksInside, VariantsOk, TypeOk, tuple_parts, array_part, union_parts, enum_parts, size_int, size_tuple, size_array, size_union, size_enum, Val, Bytes, part, number_of, pointer_of, walk, bool_of, pointer_where, is_not_null, is_aligned, elements_in, chunks_in, decoded, read_fields, read_variant, chunks_size, elements_pass, has_shape, fields_have_shape, variant_has_shape, lt_test, some_is, mapped, followed}
use Rattle.mr_base.proofs.Comparisons.{eq_test}
use Rattle.mr_ast.specs.declared.types.Ty.TheVariants as ty
use Rattle.mr_value.specs.declared.val.Val.TheVariants as val
use Rattle.mr_value.proofs.DecodeLaws.{decode_int, decode_bool, decode_raw, decode_fn_ptr, decode_ref, decode_tuple, decode_array, decode_union, decode_enum}
use Rattle.mr_value.proofs.Digits.{more_byte}
use Rattle.mr_value.proofs.ShapeLaws.{has_int, has_bool, has_raw, has_fn_ptr, has_ref, has_tuple, has_array, has_union, has_enum}

pub number_fits : (b : Bytes) (n : ℕ) → number_of b ≡ Some n → n < 2 ^ (8 * length b)
number_fits [] n e = let h : 0 ≡ n = cc in subst (λ k. k < 2 ^ 0) h (omega arith)
number_fits (Uninit ∷ b) n e = absurd (cc)
number_fits (Init k p ∷ b) n e =
    let m = mapped (λ r. k % 256 + 256 * r) (number_of b) n e in
    let rest = number_fits b m.0 m.1.0 in
    let small : k % 256 < 256 = omega arith in
    let more : 2 ^ (8 * suc (length b)) ≡ 256 * 2 ^ (8 * length b) = more_byte (suc (length b)) (omega arith) ∙ ap (λ j. 256 * 2 ^ (8 * j)) (omega arith) in
    omega (arith, m.1.1)

pub length-part : (at len : ℕ) (b : Bytes) → at + len ≤ length b → length (part at len b) ≡ len
length-part at len b p = omega (arith, length-take len (drop at b), length-drop at b)

abbrev HasShape : Ty → Type 0
HasShape t = TypeOk t → (b : Bytes) → length b ≡ size_of t → (v : Val) → decoded t b ≡ Some v → has_shape t v ≡ true

fields_shape : (size : ℕ) (fields : List (ℕ × Ty)) (b : Bytes) (vs : List Val) → AllFields HasShape fields → FieldsOk size fields → length b ≡ size → read_fields fields b ≡ Some vs → fields_have_shape fields vs ≡ true
fields_shape size [] b vs all ok h e = let g : [] ≡ vs = cc in ap (fields_have_shape []) (sym g)
fields_shape size (f ∷ fields) b vs all ok h e =
    let one = followed (λ v. option_map (λ ws. v ∷ ws) (read_fields fields b)) (decoded f.1 (part f.0 (size_of f.1) b)) vs e in
    let rest = mapped (λ ws. one.0 ∷ ws) (read_fields fields b) vs one.1.1 in
    let long = length-part f.0 (size_of f.1) b (omega (arith, ok.0.inside)) in
    let here = all.0 ok.0.ok (part f.0 (size_of f.1) b) long one.0 one.1.0 in
    ap (fields_have_shape (f ∷ fields)) (sym rest.1.1)
    ∙ ap (λ t. t && fields_have_shape fields rest.0) here
    ∙ fields_shape size fields b rest.0 all.1 ok.1 h rest.1.0

-- so many elements that pass
record Elements (count : ℕ) (elem : Ty) (vs : List Val) : Type 0 where
  counted : length vs ≡ count
  shaped : elements_pass (has_shape elem) vs ≡ true

elements_shape : (count : ℕ) (elem : Ty) (b : Bytes) (vs : List Val) → HasShape elem → TypeOk elem → length b ≡ count * size_of elem → elements_in count (size_of elem) (decoded elem) b ≡ Some vs → Elements count elem vs
elements_shape zero elem b vs all ok h e = let g : [] ≡ vs = cc in subst (Elements 0 elem) g (record { counted = refl; shaped = refl })
elements_shape (suc count) elem b vs all ok h e =
    let size = size_of elem in
    let left = elements_in count size (decoded elem) (drop size b) in
    let one = followed (λ v. option_map (λ ws. v ∷ ws) left) (decoded elem (take size b)) vs e in
    let rest = mapped (λ ws. one.0 ∷ ws) left vs one.1.1 in
    let all_long : length b ≡ size + count * size = grind arith in
    let long : length (take size b) ≡ size = omega (arith, length-take size b) in
    let left_long : length (drop size b) ≡ count * size = omega (arith, length-drop size b) in
    let here = all ok (take size b) long one.0 one.1.0 in
    let behind = elements_shape count elem (drop size b) rest.0 all ok left_long rest.1.0 in
    subst (Elements (suc count) elem) rest.1.1
    (record { counted = ap suc behind.counted; shaped = ap (λ t. t && elements_pass (has_shape elem) rest.0) here ∙ behind.shaped })

pub length-chunks_in : (size : ℕ) (chunks : List (ℕ × ℕ)) (b : Bytes) → ChunksInside size chunks → length b ≡ size → length (chunks_in chunks b) ≡ chunks_size chunks
length-chunks_in size [] b ok h = refl
length-chunks_in size (c ∷ chunks) b ok h =
    let one = length-part c.0 c.1 b (omega (arith, ok.0)) in
    let rest = length-chunks_in size chunks b ok.1 h in
    omega (arith, length-append (part c.0 c.1 b) (chunks_in chunks b))

-- the value is a variant that has the shape
record Shaped (variants : List Variant) (number : Num) (v : Val) : Type 0 where
  value : Val
  is : val.Variant number value ≡ v
  shaped : variant_has_shape variants number value ≡ true

variant_shape : (size : ℕ) (variants : List Variant) (b : Bytes) (n : Num) (v : Val) → AllVariants HasShape variants → VariantsOk size variants → length b ≡ size → read_variant variants b n ≡ Some v → Shaped variants n v
variant_shape size [] b n v all ok h e = absurd (cc)
variant_shape size (w ∷ variants) b n v all ok h e =
    chosen (same_num w.number n) refl
    (λ is. let m = mapped (λ x. val.Variant n x) (decoded w.ty b) v (sym (read is) ∙ e) in
    record { value = m.0; is = m.1.1; shaped = shape m.0 is ∙ all.0 ok.0.ok b (h ∙ sym ok.1) m.0 m.1.0 })
    (λ is. variant_shape size variants b n v all.1 ok.2 h (sym (read is) ∙ e))
  where
    read : {t : Bool} → same_num w.number n ≡ t → read_variant (w ∷ variants) b n ≡ (if t then option_map (λ x. val.Variant n x) (decoded w.ty b) else read_variant variants b n)
    read is = ap (λ t. if t then option_map (λ x. val.Variant n x) (decoded w.ty b) else read_variant variants b n) is

    shape : {t : Bool} (x : Val) → same_num w.number n ≡ t → variant_has_shape (w ∷ variants) n x ≡ (if t then has_shape w.ty x else variant_has_shape variants n x)
    shape x is = ap (λ t. if t then has_shape w.ty x else variant_has_shape variants n x) is

    chosen : (t : Bool) → same_num w.number n ≡ t → (same_num w.number n ≡ true → Shaped (w ∷ variants) n v) → (same_num w.number n ≡ false → Shaped variants n v) → Shaped (w ∷ variants) n v
    chosen true is here rest = here is
    chosen false is here rest = let s = rest is in record { value = s.value; is = s.is; shaped = shape s.value is ∙ s.shaped }

some_bool : (n : ℕ) (v : Val) → bool_of n ≡ Some v → (truth : Bool) × (val.Bool truth ≡ v)
some_bool zero v e = (false, some_is e)
some_bool (suc zero) v e = (true, some_is e)
some_bool (suc (suc n)) v e = absurd (cc)

some_pointer : (test : ℕ → Bool) (b : Bytes) (v : Val) → pointer_where test b ≡ Some v → (p : Pointer) × (val.Ptr p ≡ v)
some_pointer test b v e =
    let m = followed (λ (p : Pointer). if test p.addr then Some (val.Ptr p) else None) (pointer_of b) v e in
    (m.0, taken (test m.0.addr) m.0 m.1.1)
  where
    taken : (t : Bool) (p : Pointer) → (if t then Some (val.Ptr p) else None) ≡ Some v → val.Ptr p ≡ v
    taken true p e = some_is e
    taken false p e = absurd (cc)

some_ref : (never : Bool) (align : ℕ) (b : Bytes) (v : Val) → (if never then None else pointer_where (is_aligned align) b) ≡ Some v → (p : Pointer) × (val.Ptr p ≡ v)
some_ref true align b v e = absurd (cc)
some_ref false align b v e = some_pointer (is_aligned align) b v e

shape_cases : TypeCases HasShape
shape_cases = record {
  at_int = λ int ok b h v e.
      let m = mapped val.Int (number_of b) v (sym (decode_int int b) ∙ e) in
      let fits : m.0 < 2 ^ (8 * int_size int) = subst (λ k. m.0 < 2 ^ (8 * k)) (h ∙ size_int int) (number_fits b m.0 m.1.0) in
      ap (has_shape (ty.Int int)) (sym m.1.1) ∙ has_int int m.0 ∙ lt_test m.0 (2 ^ (8 * int_size int)) fits;
  at_bool = λ ok b h v e.
      let m = followed bool_of (number_of b) v (sym (decode_bool b) ∙ e) in
      let s = some_bool m.0 v m.1.1 in
      ap (has_shape ty.Bool) (sym s.1) ∙ has_bool s.0;
  at_raw = λ ok b h v e. let s = some_pointer (λ addr. true) b v (sym (decode_raw b) ∙ e) in ap (has_shape ty.Raw) (sym s.1) ∙ has_raw s.0;
  at_fn_ptr = λ ok b h v e. let s = some_pointer is_not_null b v (sym (decode_fn_ptr b) ∙ e) in ap (has_shape ty.FnPtr) (sym s.1) ∙ has_fn_ptr s.0;
  at_ref = λ size align never ok b h v e.
      let s = some_ref never align b v (sym (decode_ref size align never b) ∙ e) in ap (has_shape (ty.Ref size align never)) (sym s.1) ∙ has_ref size align never s.0;
  at_tuple = λ size align fields all ok b h v e.
      let m = mapped val.Tuple (read_fields fields b) v (sym (decode_tuple size align fields b) ∙ e) in
      ap (has_shape (ty.Tuple size align fields)) (sym m.1.1) ∙ has_tuple size align fields m.0
      ∙ fields_shape size fields b m.0 all (tuple_parts size align fields ok) (h ∙ size_tuple size align fields) m.1.0;
  at_array = λ count elem all ok b h v e.
      let m = mapped val.Tuple (elements_in count (size_of elem) (decoded elem) b) v (sym (decode_array count elem b) ∙ e) in
      let s = elements_shape count elem b m.0 all (array_part count elem ok) (h ∙ size_array count elem) m.1.0 in
      ap (has_shape (ty.Array count elem)) (sym m.1.1) ∙ has_array count elem m.0
      ∙ ap (λ t. t && elements_pass (has_shape elem) m.0) (eq_test (length m.0) count s.counted) ∙ s.shaped;
  at_union = λ size align fields chunks all ok b h v e.
      let is : val.Union (chunks_in chunks b) ≡ v = some_is (sym (decode_union size align fields chunks b) ∙ e) in
      ap (has_shape (ty.Union size align fields chunks)) (sym is) ∙ has_union size align fields chunks (chunks_in chunks b)
      ∙ eq_test (length (chunks_in chunks b)) (chunks_size chunks) (length-chunks_in size chunks b (union_parts size align fields chunks ok) (h ∙ size_union size align fields chunks));
  at_enum = λ size align disc variants tree all ok b h v e.
      let m = followed (read_variant variants b) (walk tree b) v (sym (decode_enum size align disc variants tree b) ∙ e) in
      let s = variant_shape size variants b m.0 v all (enum_parts size align disc variants tree ok).0 (h ∙ size_enum size align disc variants tree) m.1.1 in
      ap (has_shape (ty.Enum size align disc variants tree)) (sym s.is) ∙ has_enum size align disc variants tree m.0 s.value ∙ s.shaped;
}

-- what bytes of a type's size mean has the shape of the type
pub decoded_has_shape : (t : Ty) → TypeOk t → (b : Bytes) → length b ≡ size_of t → (v : Val) → decoded t b ≡ Some v → has_shape t v ≡ true
decoded_has_shape = type_induction HasShape shape_cases
