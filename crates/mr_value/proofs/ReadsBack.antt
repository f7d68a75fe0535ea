-- Bytes that hold what a type uses of a value's encoding mean that value, where it is faithful.
use Rattle.mr_value.proofs.Common.{◌≡◌, ℕ, zero, suc, ◌+◌, ◌-◌, ◌*◌, ◌%◌, ◌^◌, ◌<◌, ◌≤◌, ⊎_elim, Bool, true, false, List, [], ◌∷◌, ◌++◌, length, take, drop, Option, Some, None, refl, sym, subst, ap, ◌∙◌, arith, length-take, length-drop, nat_tests, get_or-take, get_or-drop, get_or_past, get_or_append_left, get_or-append_right, length-replicate, not, ◌&&◌, ◌||◌, nat_lt, nat_le, if◌then◌else◌, option_map, option_and_then, and_parts, or_parts, Num, Tag, Ty, Variant, AllFields, AllVariants, TypeCases, type_induction, Uninit, Init, Pointer, same_num, is_some_used, are_tags, are_all_tags, FieldsOk, ChunksInside, VariantsOk, meets_any, is_overlapping, meets_chunk, is_chunk_overlapping, size_of, int_size, TypeOk, is_in, is_in_part, is_in_chunk, is_in_tag, is_used, is_used_variant, is_used_field, is_used_in, tuple_parts, array_part, union_parts, enum_parts, size_int, size_bool, size_raw, size_fn_ptr, size_ref, size_tuple, size_array, size_union, size_enum, with_range_replaced, length-with_range_replaced, with_provenance, Val, Bytes, part, number_of, little_endian, pointer_bytes, walk, bool_of, pointer_where, is_not_null, is_aligned, elements_in, chunks_in, decoded, read_fields, read_variant, blank, element_bytes, with_chunks, with_tags, encoding_of, write_fields, write_variant, is_found, is_faithful, fields_faithful, variant_faithful, chunks_size, elements_pass, has_shape, fields_have_shape, variant_has_shape, below_or, eq_from, lt_test}
use Rattle.std.proofs.lemmas.List.{ext_get_or, take-append-drop}
use Rattle.std.proofs.Math.Nat.{mod-eq_of_lt, add-mod_left}
use Rattle.std.proofs.lemmas.Bool.{or_left, or_right}
use Rattle.mr_layout.proofs.UsedLaws.{used_int, used_bool, used_raw, used_fn_ptr, used_ref, used_tuple, used_array, used_union, used_enum, used_variant_is}
use Rattle.mr_base.proofs.Comparisons.{lt_from}
use Rattle.mr_layout.proofs.TreeOk.{same_num_equal}
use Rattle.mr_ast.specs.ShapedTypes.{fits_u64}
use Rattle.mr_ast.specs.declared.types.Ty.TheVariants as ty
use Rattle.mr_value.specs.declared.val.Val.TheVariants as val
use Rattle.mr_value.proofs.ApartParts.{tuple_apart, union_apart}
use Rattle.mr_value.proofs.DecodeLaws.{decode_int, decode_bool, decode_raw, decode_fn_ptr, decode_ref, decode_tuple, decode_array, decode_union, decode_enum}
use Rattle.mr_value.proofs.DecodeShape.{length-part}
use Rattle.mr_value.proofs.EncodeBlank.{unused_is_blank}
use Rattle.mr_value.proofs.EncodeLaws.{encode_int, encode_bool, encode_raw, encode_fn_ptr, encode_ref, encode_tuple, encode_array, encode_union, encode_enum}
use Rattle.mr_value.proofs.EncodeLength.{length-initialised, length-encoding_of}
use Rattle.mr_value.proofs.EncodePieces.{field_pieces, write_fields_is, fields_inside, meets_fields, chunk_pieces, with_chunks_is, length-taken, length-left, chunks_inside, meets_chunks, tag_pieces, with_tags_is, tags_inside, in_tags}
use Rattle.mr_value.proofs.FaithfulLaws.{faithful_raw, faithful_fn_ptr, faithful_ref, faithful_tuple, faithful_array, faithful_enum}
use Rattle.mr_value.proofs.NumbersBack.{number_back, pointer_back}
use Rattle.mr_value.proofs.Pieces.{byte_at, byte_outside, byte_of_piece}
use Rattle.mr_value.proofs.ShapeLaws.{shape_int, shape_bool, shape_raw, shape_fn_ptr, shape_ref, shape_tuple, shape_array, shape_union, shape_enum}
use Rattle.mr_value.proofs.TagParts.{enum_tags, first_tag}
use Rattle.mr_value.proofs.WalkSame.{Holds, uninit_init, walk_same}

-- the bytes that the type uses are the same
abbrev pub Agrees : Ty → Bytes → Bytes → Type 0
Agrees t b e = (i : ℕ) → i < size_of t → is_used t i ≡ true → byte_at b i ≡ byte_at e i

abbrev pub Reads : Ty → Type 0
Reads t = TypeOk t → (v : Val) → has_shape t v ≡ true → is_faithful t v ≡ true → (b : Bytes) → length b ≡ size_of t → Agrees t b (encoding_of t v) → decoded t b ≡ Some v

-- a type that uses all of its bytes
all_same : (t : Ty) (size : ℕ) (v w : Val) (b bytes : Bytes) → v ≡ w → encoding_of t w ≡ bytes → ((i : ℕ) → is_used t i ≡ nat_lt i size) → size_of t ≡ size → length bytes ≡ size → length b ≡ size_of t → Agrees t b (encoding_of t v) → b ≡ bytes
all_same t size v w b bytes is written used sized long h agrees =
    ext_get_or Uninit b bytes (h ∙ sized ∙ sym long)
    (λ i p. let q : i < size_of t = subst (λ n. i < n) h p in
    agrees i q (used i ∙ lt_test i size (subst (λ n. i < n) sized q)) ∙ ap (λ x. byte_at (encoding_of t x) i) is ∙ ap (λ (x : Bytes). byte_at x i) written)

pointer_where_back : (test : ℕ → Bool) (p : Pointer) → fits_u64 p.addr ≡ true → test p.addr ≡ true → pointer_where test (pointer_bytes p) ≡ Some (val.Ptr p)
pointer_where_back test p small passes =
    ap (option_and_then (λ (q : Pointer). if test q.addr then Some (val.Ptr q) else None)) (pointer_back p (lt_from p.addr (2 ^ 64) small))
    ∙ ap (λ t. if t then Some (val.Ptr p) else None) passes

bool_back : (truth : Bool) → option_and_then bool_of (number_of (with_provenance None ((if truth then 1 else 0) ∷ []))) ≡ Some (val.Bool truth)
bool_back true = refl
bool_back false = refl

inhabited_back : (never : Bool) (o : Option Val) → not never ≡ true → (if never then None else o) ≡ o
inhabited_back true o e = cc
inhabited_back false o e = refl

part_used : (start j : ℕ) (t : Ty) → is_used t j ≡ true → is_in_part start (is_used t) (start + j) ≡ true
part_used start j t e =
    let low : nat_le start (start + j) ≡ true = grind (arith, nat_tests) in
    let place : start + j - start ≡ j = omega arith in
    ap (λ b. b && is_used t (start + j - start)) low ∙ ap (is_used t) place ∙ e

byte_of_part : (at len : ℕ) (b : Bytes) (j : ℕ) → j < len → byte_at (part at len b) j ≡ byte_at b (at + j)
byte_of_part at len b j p = get_or-take len (drop at b) j Uninit p ∙ get_or-drop at b j Uninit

-- the bytes at each field hold what its type uses of its value's encoding
abbrev FieldsAgree : Bytes → List (ℕ × Ty) → List Val → Type 0
FieldsAgree b [] vs = Unit {0}
FieldsAgree b (f ∷ fields) [] = Unit {0}
FieldsAgree b (f ∷ fields) (v ∷ vs) = Agrees f.1 (part f.0 (size_of f.1) b) (encoding_of f.1 v) × FieldsAgree b fields vs

fields_agree : (size : ℕ) (fields : List (ℕ × Ty)) (vs : List Val) (b bytes : Bytes) → FieldsOk size fields → fields_have_shape fields vs ≡ true → is_overlapping fields ≡ false → length bytes ≡ size
    → ((i : ℕ) → i < size → is_used_field fields i ≡ true → byte_at b i ≡ byte_at (write_fields fields vs bytes) i) → FieldsAgree b fields vs
fields_agree size [] vs b bytes ok e apart h same = tt
fields_agree size (f ∷ fields) [] b bytes ok e apart h same = tt
fields_agree size (f ∷ fields) (v ∷ vs) b bytes ok e apart h same =
    let p = and_parts (has_shape f.1 v) (fields_have_shape fields vs) e in
    let far = or_parts (meets_any f.0 (size_of f.1) fields) (is_overlapping fields) apart in
    let piece = encoding_of f.1 v in
    let long : length piece ≡ size_of f.1 = length-encoding_of f.1 ok.0.ok v p.0 in
    let inside : f.0 + length piece ≤ size = omega (arith, ok.0.inside) in
    let within : f.0 + length piece ≤ length bytes = omega arith in
    let next = with_range_replaced bytes f.0 piece in
    let clear = ap (λ n. meets_any f.0 n fields) long ∙ far.0 in (
      (λ j q u.
          let there : f.0 + j < size = omega (arith, ok.0.inside) in
          let low : j < length piece = omega arith in
          byte_of_part f.0 (size_of f.1) b j q
          ∙ same (f.0 + j) there (or_left (is_in_part f.0 (is_used f.1) (f.0 + j)) (is_used_field fields (f.0 + j)) (part_used f.0 j f.1 u))
          ∙ ap (λ (x : Bytes). byte_at x (f.0 + j)) (write_fields_is fields vs next)
          ∙ byte_of_piece size f.0 piece (field_pieces fields vs) bytes j inside (fields_inside size fields vs ok.1 p.1) h (meets_fields size f.0 (length piece) fields vs ok.1 p.1 ∙ clear) low),
      fields_agree size fields vs b next ok.1 p.1 far.1 (length-with_range_replaced bytes f.0 piece within ∙ h)
          (λ i q u. same i q (or_right (is_in_part f.0 (is_used f.1) i) (is_used_field fields i) u)),
    )

fields_read : (size : ℕ) (fields : List (ℕ × Ty)) (vs : List Val) (b : Bytes) → AllFields Reads fields → FieldsOk size fields → fields_have_shape fields vs ≡ true → fields_faithful fields vs ≡ true → length b ≡ size → FieldsAgree b fields vs → read_fields fields b ≡ Some vs
fields_read size [] [] b all ok e g h agree = refl
fields_read size [] (v ∷ vs) b all ok e g h agree = cc
fields_read size (f ∷ fields) [] b all ok e g h agree = cc
fields_read size (f ∷ fields) (v ∷ vs) b all ok e g h agree =
    let p = and_parts (has_shape f.1 v) (fields_have_shape fields vs) e in
    let q = and_parts (is_faithful f.1 v) (fields_faithful fields vs) g in
    let long = length-part f.0 (size_of f.1) b (omega (arith, ok.0.inside)) in
    let one = all.0 ok.0.ok v p.0 q.0 (part f.0 (size_of f.1) b) long agree.0 in
    ap (option_and_then (λ w. option_map (λ ws. w ∷ ws) (read_fields fields b))) one
    ∙ ap (option_map (λ ws. v ∷ ws)) (fields_read size fields vs b all.1 ok.1 p.1 q.1 h agree.1)

elements_read : (elem : Ty) (vs : List Val) (b : Bytes) → Reads elem → TypeOk elem → elements_pass (has_shape elem) vs ≡ true → elements_pass (is_faithful elem) vs ≡ true → length b ≡ length vs * size_of elem
    → ((i : ℕ) → i < length vs * size_of elem → is_used elem (i % size_of elem) ≡ true → byte_at b i ≡ byte_at (element_bytes (encoding_of elem) vs) i)
    → elements_in (length vs) (size_of elem) (decoded elem) b ≡ Some vs
elements_read elem [] b all ok e g h same = refl
elements_read elem (v ∷ vs) b all ok e g h same =
    let size = size_of elem in
    let p = and_parts (has_shape elem v) (elements_pass (has_shape elem) vs) e in
    let q = and_parts (is_faithful elem v) (elements_pass (is_faithful elem) vs) g in
    let piece = encoding_of elem v in
    let rest = element_bytes (encoding_of elem) vs in
    let long : length piece ≡ size = length-encoding_of elem ok v p.0 in
    let whole : length b ≡ size + length vs * size = h ∙ more (length vs) size in
    let first : length (take size b) ≡ size = omega (arith, length-take size b) in
    let left : length (drop size b) ≡ length vs * size = omega (arith, length-drop size b) in
    let one = all ok v p.0 q.0 (take size b) first
    (λ j low u.
    let within : j < suc (length vs) * size = begins (length vs) size j low in
    get_or-take size b j Uninit low
    ∙ same j within (ap (is_used elem) (mod-eq_of_lt low) ∙ u)
    ∙ get_or_append_left piece rest Uninit j (omega arith)) in
    let others = elements_read elem vs (drop size b) all ok p.1 q.1 left
    (λ j low u.
    let within : size + j < suc (length vs) * size = goes_on (length vs) size j low in
    let high : size ≤ size + j = omega arith in
    let place : size + j - size ≡ j = omega arith in
    get_or-drop size b j Uninit
    ∙ same (size + j) within (ap (is_used elem) (add-mod_left size j) ∙ u)
    ∙ get_or-append_right piece rest size (size + j) Uninit long high
    ∙ ap (byte_at rest) place) in
    ap (option_and_then (λ w. option_map (λ ws. w ∷ ws) (elements_in (length vs) size (decoded elem) (drop size b)))) one
    ∙ ap (option_map (λ ws. v ∷ ws)) others
  where
    more : (count size : ℕ) → suc count * size ≡ size + count * size
    more count size = omega arith

    begins : (count size j : ℕ) → j < size → j < suc count * size
    begins count size j p = omega arith

    goes_on : (count size j : ℕ) → j < count * size → size + j < suc count * size
    goes_on count size j p = omega arith

none_left : (content : Bytes) → length content ≡ 0 → [] ≡ content
none_left [] h = refl
none_left (x ∷ content) h = absurd (omega arith)

chunk_used : (start len j : ℕ) → j < len → is_in start len (start + j) ≡ true
chunk_used start len j p = grind (arith, nat_tests)

chunks_read : (size : ℕ) (chunks : List (ℕ × ℕ)) (content b bytes : Bytes) → ChunksInside size chunks → is_chunk_overlapping chunks ≡ false → length content ≡ chunks_size chunks → length b ≡ size → length bytes ≡ size
    → ((i : ℕ) → i < size → is_in_chunk chunks i ≡ true → byte_at b i ≡ byte_at (with_chunks chunks content bytes) i) → chunks_in chunks b ≡ content
chunks_read size [] content b bytes ok apart k h s same = none_left content k
chunks_read size (c ∷ chunks) content b bytes ok apart k h s same =
    let far = or_parts (meets_chunk c.0 c.1 chunks) (is_chunk_overlapping chunks) apart in
    let piece = take c.1 content in
    let long : length piece ≡ c.1 = length-taken c chunks content k in
    let left = length-left c chunks content k in
    let inside : c.0 + length piece ≤ size = omega (arith, ok.0) in
    let within : c.0 + length piece ≤ length bytes = omega arith in
    let next = with_range_replaced bytes c.0 piece in
    let clear = ap (λ n. meets_chunk c.0 n chunks) long ∙ far.0 in
    let taken : length (part c.0 c.1 b) ≡ c.1 = length-part c.0 c.1 b (omega (arith, ok.0)) in
    let one : part c.0 c.1 b ≡ piece = ext_get_or Uninit (part c.0 c.1 b) piece (taken ∙ sym long)
    (λ j p.
    let low : j < c.1 = omega arith in
    let there : c.0 + j < size = omega (arith, ok.0) in
    let short : j < length piece = omega arith in
    byte_of_part c.0 c.1 b j low
    ∙ same (c.0 + j) there (or_left (is_in c.0 c.1 (c.0 + j)) (is_in_chunk chunks (c.0 + j)) (chunk_used c.0 c.1 j low))
    ∙ ap (λ (x : Bytes). byte_at x (c.0 + j)) (with_chunks_is chunks (drop c.1 content) next)
    ∙ byte_of_piece size c.0 piece (chunk_pieces chunks (drop c.1 content)) bytes j inside (chunks_inside size chunks (drop c.1 content) ok.1 left) s (meets_chunks c.0 (length piece) chunks (drop c.1 content) left ∙ clear) short) in
    let others = chunks_read size chunks (drop c.1 content) b next ok.1 far.1 left h (length-with_range_replaced bytes c.0 piece within ∙ s)
    (λ i p u. same i p (or_right (is_in c.0 c.1 i) (is_in_chunk chunks i) u)) in
    ap (λ (x : Bytes). x ++ chunks_in chunks b) one ∙ ap (λ (x : Bytes). piece ++ x) others ∙ take-append-drop c.1 content

some_unused : (t : Ty) (start n j : ℕ) → is_some_used t start n ≡ false → j < n → is_used t (start + j) ≡ false
some_unused t start zero j e p = absurd (omega arith)
some_unused t start (suc n) j e p =
    let h = or_parts (is_some_used t start n) (is_used t (start + n)) e in
    ⊎_elim
    (λ (low : j < n). some_unused t start n j h.0 low)
    (λ (high : n ≤ j). let same : n ≡ j = omega arith in subst (λ k. is_used t (start + k) ≡ false) same h.1)
    (below_or j n)

-- a byte that the variant's type uses is in none of its tags
tags_unused : (size : ℕ) (t : Ty) (tags : List Tag) (i : ℕ) → are_tags size t tags ≡ true → is_used t i ≡ true → is_in_tag tags i ≡ false
tags_unused size t [] i e u = refl
tags_unused size t (g ∷ tags) i e u =
    let p = first_tag size t g tags e in
    neither (is_in g.at (int_size g.int) i) (is_in_tag tags i)
    (λ h. let q = and_parts (nat_le g.at i) (nat_lt i (g.at + int_size g.int)) h in
    let low : g.at ≤ i = grind (arith, nat_tests) in
    let high : i < g.at + int_size g.int = grind (arith, nat_tests) in
    let place : g.at + (i - g.at) ≡ i = omega arith in
    let near : i - g.at < int_size g.int = omega arith in
    clash (sym u ∙ sym (ap (is_used t) place) ∙ some_unused t g.at (int_size g.int) (i - g.at) p.unused near))
    (tags_unused size t tags i p.rest u)
  where
    clash : true ≡ false → ⊥
    clash h = cc

    neither : (a b : Bool) → (a ≡ true → ⊥) → b ≡ false → (a || b) ≡ false
    neither true b out e = absurd (out refl)
    neither false b out e = e

-- the bytes that one of the variants uses are the same
abbrev Found : ℕ → List Variant → Bytes → Bytes → Type 0
Found size variants b bytes = (i : ℕ) → i < size → is_used_in variants i ≡ true → byte_at b i ≡ byte_at bytes i

variant_read : (size : ℕ) (variants : List Variant) (n : Num) (v : Val) (b : Bytes) → AllVariants Reads variants → VariantsOk size variants → are_all_tags size variants ≡ true → variant_has_shape variants n v ≡ true → variant_faithful variants n v ≡ true → length b ≡ size
    → Found size variants b (write_variant variants n v) → read_variant variants b n ≡ Some (val.Variant n v)
variant_read size [] n v b all ok tags e g h same = cc
variant_read size (w ∷ variants) n v b all ok tags e g h same =
    let t = and_parts (are_tags size w.ty w.tags) (are_all_tags size variants) tags in
    chosen (same_num w.number n)
    (λ here faithful found. all.0 ok.0.ok v here faithful b (h ∙ sym ok.1)
    (λ i p u.
    let within : i < size = subst (λ k. i < k) ok.1 p in
    let long : length (encoding_of w.ty v) ≡ size = length-encoding_of w.ty ok.0.ok v here ∙ ok.1 in
    let used : is_used_variant w i ≡ true = used_variant_is w i ∙ or_left (is_used w.ty i) (is_in_tag w.tags i) u in
    found i within (or_left (is_used_variant w i) (is_used_in variants i) used)
    ∙ ap (λ (x : Bytes). byte_at x i) (with_tags_is w.tags (encoding_of w.ty v))
    ∙ byte_outside size (tag_pieces w.tags) (encoding_of w.ty v) i (tags_inside size w.ty w.tags t.0) long (in_tags w.tags i ∙ tags_unused size w.ty w.tags i t.0 u)))
    (λ shape faithful found. variant_read size variants n v b all.1 ok.2 t.1 shape faithful h (λ i p u. found i p (or_right (is_used_variant w i) (is_used_in variants i) u)))
    e g same
  where
    chosen : (t : Bool)
        → (has_shape w.ty v ≡ true → is_faithful w.ty v ≡ true → Found size (w ∷ variants) b (with_tags w.tags (encoding_of w.ty v)) → decoded w.ty b ≡ Some v)
        → (variant_has_shape variants n v ≡ true → variant_faithful variants n v ≡ true → Found size (w ∷ variants) b (write_variant variants n v) → read_variant variants b n ≡ Some (val.Variant n v))
        → (if t then has_shape w.ty v else variant_has_shape variants n v) ≡ true → (if t then is_faithful w.ty v else variant_faithful variants n v) ≡ true
        → Found size (w ∷ variants) b (if t then with_tags w.tags (encoding_of w.ty v) else write_variant variants n v)
        → (if t then option_map (λ x. val.Variant n x) (decoded w.ty b) else read_variant variants b n) ≡ Some (val.Variant n v)
    chosen true here rest e g found = ap (option_map (λ x. val.Variant n x)) (here e g found)
    chosen false here rest e g found = rest e g found

found_is : (n : Num) (o : Option Num) → is_found n o ≡ true → o ≡ Some n
found_is n None e = cc
found_is n (Some m) e = ap Some (same_num_equal m n e)

holds_used : (t : Ty) (v : Val) (b : Bytes) → TypeOk t → has_shape t v ≡ true → Agrees t b (encoding_of t v) → Holds b (encoding_of t v)
holds_used t v b ok e agrees i n p is = ⊎_elim within past (below_or i (size_of t))
  where
    by_use : (used : Bool) → is_used t i ≡ used → i < size_of t → byte_at b i ≡ Init n p
    by_use true u low = agrees i low u ∙ is
    by_use false u low = absurd (uninit_init (sym (unused_is_blank t ok v e i low u) ∙ is))

    within : i < size_of t → byte_at b i ≡ Init n p
    within low = by_use (is_used t i) refl low

    past : size_of t ≤ i → byte_at b i ≡ Init n p
    past high =
        let long = length-encoding_of t ok v e in
        absurd (uninit_init (sym (get_or_past (encoding_of t v) i Uninit (omega arith)) ∙ is))

reads_cases : TypeCases Reads
reads_cases = record {
  at_int = λ int ok v e g b h agrees.
      let s = shape_int int v e in
      let bytes = with_provenance None (little_endian (int_size int) s.bits) in
      let same = all_same (ty.Int int) (int_size int) v (val.Int s.bits) b bytes s.is (encode_int int s.bits) (used_int int) (size_int int) (length-initialised None (int_size int) s.bits) h agrees in
      ap (decoded (ty.Int int)) same ∙ decode_int int bytes
      ∙ ap (option_map val.Int) (number_back None (int_size int) s.bits (lt_from s.bits (2 ^ (8 * int_size int)) s.fits)) ∙ ap Some (sym s.is);
  at_bool = λ ok v e g b h agrees.
      let s = shape_bool v e in
      let bytes = with_provenance None ((if s.truth then 1 else 0) ∷ []) in
      let same = all_same ty.Bool 1 v (val.Bool s.truth) b bytes s.is (encode_bool s.truth) used_bool size_bool refl h agrees in
      ap (decoded ty.Bool) same ∙ decode_bool bytes ∙ bool_back s.truth ∙ ap Some (sym s.is);
  at_raw = λ ok v e g b h agrees.
      let s = shape_raw v e in
      let p = s.pointer in
      let same = all_same ty.Raw 8 v (val.Ptr p) b (pointer_bytes p) s.is (encode_raw p) used_raw size_raw (length-initialised p.prov 8 p.addr) h agrees in
      let small = sym (faithful_raw p) ∙ sym (ap (is_faithful ty.Raw) s.is) ∙ g in
      ap (decoded ty.Raw) same ∙ decode_raw (pointer_bytes p) ∙ pointer_where_back (λ addr. true) p small refl ∙ ap Some (sym s.is);
  at_fn_ptr = λ ok v e g b h agrees.
      let s = shape_fn_ptr v e in
      let p = s.pointer in
      let same = all_same ty.FnPtr 8 v (val.Ptr p) b (pointer_bytes p) s.is (encode_fn_ptr p) used_fn_ptr size_fn_ptr (length-initialised p.prov 8 p.addr) h agrees in
      let good = and_parts (fits_u64 p.addr) (is_not_null p.addr) (sym (faithful_fn_ptr p) ∙ sym (ap (is_faithful ty.FnPtr) s.is) ∙ g) in
      ap (decoded ty.FnPtr) same ∙ decode_fn_ptr (pointer_bytes p) ∙ pointer_where_back is_not_null p good.0 good.1 ∙ ap Some (sym s.is);
  at_ref = λ size align never ok v e g b h agrees.
      let s = shape_ref size align never v e in
      let p = s.pointer in
      let same = all_same (ty.Ref size align never) 8 v (val.Ptr p) b (pointer_bytes p) s.is (encode_ref size align never p) (used_ref size align never) (size_ref size align never) (length-initialised p.prov 8 p.addr) h agrees in
      let good = and_parts (fits_u64 p.addr) (is_aligned align p.addr && not never) (sym (faithful_ref size align never p) ∙ sym (ap (is_faithful (ty.Ref size align never)) s.is) ∙ g) in
      let fine = and_parts (is_aligned align p.addr) (not never) good.1 in
      ap (decoded (ty.Ref size align never)) same ∙ decode_ref size align never (pointer_bytes p)
      ∙ inhabited_back never (pointer_where (is_aligned align) (pointer_bytes p)) fine.1
      ∙ pointer_where_back (is_aligned align) p good.0 fine.0 ∙ ap Some (sym s.is);
  at_tuple = λ size align fields all ok v e g b h agrees.
      let t = ty.Tuple size align fields in
      let s = shape_tuple size align fields v e in
      let parts = tuple_parts size align fields ok in
      let sized = size_tuple size align fields in
      let agree = fields_agree size fields s.values b (blank size) parts s.shaped (tuple_apart size align fields ok) (length-replicate size Uninit)
      (λ i p u. agrees i (subst (λ n. i < n) (sym sized) p) (used_tuple size align fields i ∙ u)
      ∙ ap (λ x. byte_at (encoding_of t x) i) s.is ∙ ap (λ (x : Bytes). byte_at x i) (encode_tuple size align fields s.values)) in
      let good = sym (faithful_tuple size align fields s.values) ∙ sym (ap (is_faithful t) s.is) ∙ g in
      decode_tuple size align fields b ∙ ap (option_map val.Tuple) (fields_read size fields s.values b all parts s.shaped good (h ∙ sized) agree) ∙ ap Some (sym s.is);
  at_array = λ count elem all ok v e g b h agrees.
      let t = ty.Array count elem in
      let s = shape_array count elem v e in
      let counted = eq_from (length s.values) count s.counted in
      let sized = size_array count elem in
      let good = sym (faithful_array count elem s.values) ∙ sym (ap (is_faithful t) s.is) ∙ g in
      let long : length b ≡ length s.values * size_of elem = h ∙ sized ∙ ap (λ n. n * size_of elem) (sym counted) in
      let read = elements_read elem s.values b all (array_part count elem ok) s.shaped good long
      (λ i p u.
      let within : i < count * size_of elem = subst (λ n. i < n * size_of elem) counted p in
      let used = used_array count elem i ∙ ap (λ x. x && is_used elem (i % size_of elem)) (lt_test i (count * size_of elem) within) ∙ u in
      agrees i (subst (λ n. i < n) (sym sized) within) used
      ∙ ap (λ x. byte_at (encoding_of t x) i) s.is ∙ ap (λ (x : Bytes). byte_at x i) (encode_array count elem s.values)) in
      decode_array count elem b ∙ ap (λ n. option_map val.Tuple (elements_in n (size_of elem) (decoded elem) b)) (sym counted)
      ∙ ap (option_map val.Tuple) read ∙ ap Some (sym s.is);
  at_union = λ size align fields chunks all ok v e g b h agrees.
      let t = ty.Union size align fields chunks in
      let s = shape_union size align fields chunks v e in
      let sized = size_union size align fields chunks in
      let read = chunks_read size chunks s.content b (blank size) (union_parts size align fields chunks ok) (union_apart size align fields chunks ok) (eq_from (length s.content) (chunks_size chunks) s.sized) (h ∙ sized) (length-replicate size Uninit)
      (λ i p u. agrees i (subst (λ n. i < n) (sym sized) p) (used_union size align fields chunks i ∙ u)
      ∙ ap (λ x. byte_at (encoding_of t x) i) s.is ∙ ap (λ (x : Bytes). byte_at x i) (encode_union size align fields chunks s.content)) in
      decode_union size align fields chunks b ∙ ap (λ (x : Bytes). Some (val.Union x)) read ∙ ap Some (sym s.is);
  at_enum = λ size align disc variants tree all ok v e g b h agrees.
      let t = ty.Enum size align disc variants tree in
      let s = shape_enum size align disc variants tree v e in
      let w = val.Variant s.number s.value in
      let sized = size_enum size align disc variants tree in
      let good = and_parts (is_found s.number (walk tree (encoding_of t w))) (variant_faithful variants s.number s.value)
      (sym (faithful_enum size align disc variants tree s.number s.value) ∙ sym (ap (is_faithful t) s.is) ∙ g) in
      let reached = ap (λ x. walk tree (encoding_of t x)) s.is ∙ found_is s.number (walk tree (encoding_of t w)) good.0 in
      let long = h ∙ sym (length-encoding_of t ok v e) in
      let found = walk_same tree b (encoding_of t v) s.number long (holds_used t v b ok e agrees) reached in
      let read = variant_read size variants s.number s.value b all (enum_parts size align disc variants tree ok).0 (enum_tags size align disc variants tree ok) s.shaped good.1 (h ∙ sized)
      (λ i p u. agrees i (subst (λ n. i < n) (sym sized) p) (used_enum size align disc variants tree i ∙ u)
      ∙ ap (λ x. byte_at (encoding_of t x) i) s.is ∙ ap (λ (x : Bytes). byte_at x i) (encode_enum size align disc variants tree s.number s.value)) in
      decode_enum size align disc variants tree b ∙ ap (option_and_then (read_variant variants b)) found ∙ read ∙ ap Some (sym s.is);
}

-- a faithful value of a type's shape is what its encoding means
pub decoded-encoding_of : (t : Ty) → TypeOk t → (v : Val) → has_shape t v ≡ true → is_faithful t v ≡ true → decoded t (encoding_of t v) ≡ Some v
decoded-encoding_of t ok v e g = type_induction Reads reads_cases t ok v e g (encoding_of t v) (length-encoding_of t ok v e) (λ i p u. refl)
