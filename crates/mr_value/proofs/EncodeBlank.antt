-- In the encoding of a value each byte that its type doesn't use is uninitialised.
use Rattle.mr_value.proofs.Common.{◌≡◌, ℕ, suc, ◌+◌, ◌-◌, ◌*◌, ◌%◌, ◌<◌, ◌≤◌, ◌⊎◌, ⊎_elim, Bool, true, false, List, [], ◌∷◌, length, refl, sym, subst, ap, ◌∙◌, arith, nat_tests, get_or_append_left, get_or-append_right, length-replicate, ◌&&◌, nat_lt, nat_le, if◌then◌else◌, and_parts, or_parts, Num, Ty, Variant, AllFields, AllVariants, TypeCases, type_induction, Uninit, same_num, are_tags, are_all_tags, FieldsOk, VariantsOk, size_of, int_size, TypeOk, is_in, is_in_part, is_in_tag, is_used, is_used_variant, is_used_field, is_used_in, tuple_parts, array_part, union_parts, enum_parts, size_int, size_bool, size_raw, size_fn_ptr, size_ref, size_tuple, size_array, size_union, size_enum, with_range_replaced, length-with_range_replaced, Val, Bytes, blank, element_bytes, with_tags, encoding_of, write_fields, write_variant, chunks_size, elements_pass, has_shape, fields_have_shape, variant_has_shape, below_or, eq_from}
use Rattle.std.proofs.Common.{inl, inr}
use Rattle.std.proofs.lemmas.List.{get_or-replicate}
use Rattle.std.proofs.Math.Nat.{mod-eq_of_lt, add-mod_left}
use Rattle.mr_layout.proofs.UsedLaws.{used_int, used_bool, used_raw, used_fn_ptr, used_ref, used_tuple, used_array, used_union, used_enum, used_variant_is}
use Rattle.mr_ast.specs.declared.types.Ty.TheVariants as ty
use Rattle.mr_value.proofs.EncodeLaws.{encode_tuple, encode_array, encode_union, encode_enum}
use Rattle.mr_value.proofs.EncodeLength.{length-encoding_of}
use Rattle.mr_value.proofs.EncodePieces.{chunk_pieces, with_chunks_is, chunks_inside, in_chunks, tag_pieces, with_tags_is, tags_inside, in_tags}
use Rattle.mr_value.proofs.Pieces.{byte_at, byte_inside, untouched, byte_outside}
use Rattle.mr_value.proofs.ShapeLaws.{shape_tuple, shape_array, shape_union, shape_enum}
use Rattle.mr_value.proofs.TagParts.{enum_tags}

abbrev IsBlank : Ty → Type 0
IsBlank t = TypeOk t → (v : Val) → has_shape t v ≡ true → (i : ℕ) → i < size_of t → is_used t i ≡ false → byte_at (encoding_of t v) i ≡ Uninit

not_below : (size i : ℕ) → nat_lt i size ≡ false → i < size → ⊥
not_below size i e p = let h : size ≤ i = grind (arith, nat_tests) in omega arith

in_cases : (start len i : ℕ) → (is_in start len i ≡ false) ⊎ ((start ≤ i) × (i < start + len))
in_cases start len i = by (is_in start len i) refl
  where
    by : (t : Bool) → is_in start len i ≡ t → (is_in start len i ≡ false) ⊎ ((start ≤ i) × (i < start + len))
    by true e = let h = and_parts (nat_le start i) (nat_lt i (start + len)) e in let a : start ≤ i = grind (arith, nat_tests) in let b : i < start + len = grind (arith, nat_tests) in inr (a, b)
    by false e = inl e

part_unused : (start i : ℕ) (t : Ty) → is_in_part start (is_used t) i ≡ false → start ≤ i → is_used t (i - start) ≡ false
part_unused start i t e p =
    let low : nat_le start i ≡ true = grind (arith, nat_tests) in
    sym (ap (λ b. b && is_used t (i - start)) low) ∙ e

fields_blank : (size : ℕ) (fields : List (ℕ × Ty)) (vs : List Val) (bytes : Bytes) (i : ℕ) → AllFields IsBlank fields → FieldsOk size fields → fields_have_shape fields vs ≡ true → length bytes ≡ size → byte_at bytes i ≡ Uninit → is_used_field fields i ≡ false
    → byte_at (write_fields fields vs bytes) i ≡ Uninit
fields_blank size [] vs bytes i all ok e h u n = u
fields_blank size (f ∷ fields) [] bytes i all ok e h u n = u
fields_blank size (f ∷ fields) (v ∷ vs) bytes i all ok e h u n =
    let p = and_parts (has_shape f.1 v) (fields_have_shape fields vs) e in
    let apart = or_parts (is_in_part f.0 (is_used f.1) i) (is_used_field fields i) n in
    let piece = encoding_of f.1 v in
    let long = length-encoding_of f.1 ok.0.ok v p.0 in
    let inside : f.0 + length piece ≤ length bytes = omega (arith, ok.0.inside) in
    let here : byte_at (with_range_replaced bytes f.0 piece) i ≡ Uninit =
    ⊎_elim
    (λ (out : is_in f.0 (length piece) i ≡ false). untouched bytes f.0 piece i inside out ∙ u)
    (λ (in_it : (f.0 ≤ i) × (i < f.0 + length piece)).
    let at : i - f.0 < size_of f.1 = omega arith in
    byte_inside bytes f.0 piece i inside in_it.0 in_it.1 ∙ all.0 ok.0.ok v p.0 (i - f.0) at (part_unused f.0 i f.1 apart.0 in_it.0))
    (in_cases f.0 (length piece) i) in
    fields_blank size fields vs (with_range_replaced bytes f.0 piece) i all.1 ok.1 p.1 (length-with_range_replaced bytes f.0 piece inside ∙ h) here apart.1

pub rest_below : (count size i : ℕ) → i < suc count * size → size ≤ i → i - size < count * size
rest_below count size i p q = omega arith

elements_blank : (elem : Ty) (vs : List Val) (i : ℕ) → IsBlank elem → TypeOk elem → elements_pass (has_shape elem) vs ≡ true → i < length vs * size_of elem → is_used elem (i % size_of elem) ≡ false → byte_at (element_bytes (encoding_of elem) vs) i ≡ Uninit
elements_blank elem [] i all ok e p n = absurd (omega arith)
elements_blank elem (v ∷ vs) i all ok e p n =
    let size = size_of elem in
    let s = and_parts (has_shape elem v) (elements_pass (has_shape elem) vs) e in
    let piece = encoding_of elem v in
    let rest = element_bytes (encoding_of elem) vs in
    let long : length piece ≡ size = length-encoding_of elem ok v s.0 in
    ⊎_elim
    (λ (low : i < size).
    let same : i % size ≡ i = mod-eq_of_lt low in
    get_or_append_left piece rest Uninit i (omega arith) ∙ all ok v s.0 i low (sym (ap (is_used elem) same) ∙ n))
    (λ (high : size ≤ i).
    let place : size + (i - size) ≡ i = omega arith in
    let same : i % size ≡ (i - size) % size = ap (λ k. k % size) (sym place) ∙ add-mod_left size (i - size) in
    let left : i - size < length vs * size = rest_below (length vs) size i p high in
    get_or-append_right piece rest size i Uninit long high
    ∙ elements_blank elem vs (i - size) all ok s.1 left (sym (ap (is_used elem) same) ∙ n))
    (below_or i size)

variant_blank : (size : ℕ) (variants : List Variant) (n : Num) (v : Val) (i : ℕ) → AllVariants IsBlank variants → VariantsOk size variants → are_all_tags size variants ≡ true → variant_has_shape variants n v ≡ true → i < size → is_used_in variants i ≡ false
    → byte_at (write_variant variants n v) i ≡ Uninit
variant_blank size [] n v i all ok tags e p u = absurd (cc)
variant_blank size (w ∷ variants) n v i all ok tags e p u =
    let t = and_parts (are_tags size w.ty w.tags) (are_all_tags size variants) tags in
    let unused = or_parts (is_used_variant w i) (is_used_in variants i) u in
    let part = or_parts (is_used w.ty i) (is_in_tag w.tags i) (sym (used_variant_is w i) ∙ unused.0) in
    chosen (same_num w.number n)
    (λ here.
    let long : length (encoding_of w.ty v) ≡ size = length-encoding_of w.ty ok.0.ok v here ∙ ok.1 in
    let within : i < size_of w.ty = omega (arith, ok.1) in
    ap (λ (b : Bytes). byte_at b i) (with_tags_is w.tags (encoding_of w.ty v))
    ∙ byte_outside size (tag_pieces w.tags) (encoding_of w.ty v) i (tags_inside size w.ty w.tags t.0) long (in_tags w.tags i ∙ part.1)
    ∙ all.0 ok.0.ok v here i within part.0)
    (λ rest. variant_blank size variants n v i all.1 ok.2 t.1 rest p unused.1)
    e
  where
    chosen : (t : Bool) → (has_shape w.ty v ≡ true → byte_at (with_tags w.tags (encoding_of w.ty v)) i ≡ Uninit) → (variant_has_shape variants n v ≡ true → byte_at (write_variant variants n v) i ≡ Uninit)
        → (if t then has_shape w.ty v else variant_has_shape variants n v) ≡ true → byte_at (if t then with_tags w.tags (encoding_of w.ty v) else write_variant variants n v) i ≡ Uninit
    chosen true here rest e = here e
    chosen false here rest e = rest e

-- a type that uses all of its bytes
all_used : (t : Ty) (size i : ℕ) → is_used t i ≡ nat_lt i size → size_of t ≡ size → i < size_of t → is_used t i ≡ false → ⊥
all_used t size i is sized p u = not_below size i (sym is ∙ u) (subst (λ n. i < n) sized p)

blank_cases : TypeCases IsBlank
blank_cases = record {
  at_int = λ int ok v e i p u. absurd (all_used (ty.Int int) (int_size int) i (used_int int i) (size_int int) p u);
  at_bool = λ ok v e i p u. absurd (all_used ty.Bool 1 i (used_bool i) size_bool p u);
  at_raw = λ ok v e i p u. absurd (all_used ty.Raw 8 i (used_raw i) size_raw p u);
  at_fn_ptr = λ ok v e i p u. absurd (all_used ty.FnPtr 8 i (used_fn_ptr i) size_fn_ptr p u);
  at_ref = λ size align never ok v e i p u. absurd (all_used (ty.Ref size align never) 8 i (used_ref size align never i) (size_ref size align never) p u);
  at_tuple = λ size align fields all ok v e i p u.
      let s = shape_tuple size align fields v e in
      ap (λ x. byte_at (encoding_of (ty.Tuple size align fields) x) i) s.is ∙ ap (λ (b : Bytes). byte_at b i) (encode_tuple size align fields s.values)
      ∙ fields_blank size fields s.values (blank size) i all (tuple_parts size align fields ok) s.shaped (length-replicate size Uninit)
      (get_or-replicate size i Uninit Uninit (subst (λ n. i < n) (size_tuple size align fields) p)) (sym (used_tuple size align fields i) ∙ u);
  at_array = λ count elem all ok v e i p u.
      let s = shape_array count elem v e in
      let counted = eq_from (length s.values) count s.counted in
      let within : i < count * size_of elem = subst (λ n. i < n) (size_array count elem) p in
      let low : nat_lt i (count * size_of elem) ≡ true = grind (arith, nat_tests) in
      ap (λ x. byte_at (encoding_of (ty.Array count elem) x) i) s.is ∙ ap (λ (b : Bytes). byte_at b i) (encode_array count elem s.values)
      ∙ elements_blank elem s.values i all (array_part count elem ok) s.shaped (subst (λ n. i < n * size_of elem) (sym counted) within)
      (sym (ap (λ t. t && is_used elem (i % size_of elem)) low) ∙ sym (used_array count elem i) ∙ u);
  at_union = λ size align fields chunks all ok v e i p u.
      let s = shape_union size align fields chunks v e in
      let sized = eq_from (length s.content) (chunks_size chunks) s.sized in
      ap (λ x. byte_at (encoding_of (ty.Union size align fields chunks) x) i) s.is
      ∙ ap (λ (b : Bytes). byte_at b i) (encode_union size align fields chunks s.content ∙ with_chunks_is chunks s.content (blank size))
      ∙ byte_outside size (chunk_pieces chunks s.content) (blank size) i (chunks_inside size chunks s.content (union_parts size align fields chunks ok) sized) (length-replicate size Uninit)
      (in_chunks chunks s.content i sized ∙ sym (used_union size align fields chunks i) ∙ u)
      ∙ get_or-replicate size i Uninit Uninit (subst (λ n. i < n) (size_union size align fields chunks) p);
  at_enum = λ size align disc variants tree all ok v e i p u.
      let s = shape_enum size align disc variants tree v e in
      ap (λ x. byte_at (encoding_of (ty.Enum size align disc variants tree) x) i) s.is ∙ ap (λ (b : Bytes). byte_at b i) (encode_enum size align disc variants tree s.number s.value)
      ∙ variant_blank size variants s.number s.value i all (enum_parts size align disc variants tree ok).0 (enum_tags size align disc variants tree ok) s.shaped
      (subst (λ n. i < n) (size_enum size align disc variants tree) p) (sym (used_enum size align disc variants tree i) ∙ u);
}

pub unused_is_blank : (t : Ty) → TypeOk t → (v : Val) → has_shape t v ≡ true → (i : ℕ) → i < size_of t → is_used t i ≡ false → byte_at (encoding_of t v) i ≡ Uninit
unused_is_blank = type_induction IsBlank blank_cases
