-- The encoding of a value has the size of its type.
use Rattle.mr_value.proofs.Common.{◌≡◌, ℕ, zero, suc, ◌+◌, ◌*◌, ◌≤◌, Bool, true, false, List, [], ◌∷◌, length, take, drop, Option, None, refl, sym, ap, ◌∙◌, arith, length-append, length-take, length-drop, if◌then◌else◌, length-replicate, and_parts, Num, Tag, Ty, Variant, AllFields, AllVariants, TypeCases, type_induction, AllocId, Uninit, Init, size_of, int_size, same_num, are_tags, are_all_tags, FieldsOk, ChunksInside, VariantsOk, TypeOk, tuple_parts, array_part, union_parts, enum_parts, size_int, size_bool, size_raw, size_fn_ptr, size_ref, size_tuple, size_array, size_union, size_enum, with_range_replaced, length-with_range_replaced, with_provenance, Val, Bytes, little_endian, bits_of_number, blank, element_bytes, with_chunks, tag_bytes, with_tags, encoding_of, write_fields, write_variant, chunks_size, elements_pass, has_shape, fields_have_shape, variant_has_shape, eq_from}
use Rattle.std.proofs.lemmas.List.{length-map}
use Rattle.mr_ast.specs.declared.types.Ty.TheVariants as ty
use Rattle.mr_value.proofs.EncodeLaws.{encode_int, encode_bool, encode_raw, encode_fn_ptr, encode_ref, encode_tuple, encode_array, encode_union, encode_enum}
use Rattle.mr_value.proofs.ShapeLaws.{shape_int, shape_bool, shape_raw, shape_fn_ptr, shape_ref, shape_tuple, shape_array, shape_union, shape_enum}
use Rattle.mr_value.proofs.TagParts.{enum_tags, first_tag}

pub length-little_endian : (count n : ℕ) → length (little_endian count n) ≡ count
length-little_endian zero n = refl
length-little_endian (suc count) n = ap suc (length-little_endian count _)

abbrev pub HasLength : Ty → Type 0
HasLength t = TypeOk t → (v : Val) → has_shape t v ≡ true → length (encoding_of t v) ≡ size_of t

-- a value whose encoding is known
known : (t : Ty) (v w : Val) (bytes : Bytes) (size : ℕ) → v ≡ w → encoding_of t w ≡ bytes → length bytes ≡ size → size_of t ≡ size → length (encoding_of t v) ≡ size_of t
known t v w bytes size is written long sized = ap (λ x. length (encoding_of t x)) is ∙ ap length written ∙ long ∙ sym sized

pub length-initialised : (provenance : Option AllocId) (count n : ℕ) → length (with_provenance provenance (little_endian count n)) ≡ count
length-initialised provenance count n = length-map (little_endian count n) (λ m. Init m provenance) ∙ length-little_endian count n

pub fields_keep_length : (size : ℕ) (fields : List (ℕ × Ty)) (vs : List Val) (bytes : Bytes) → AllFields HasLength fields → FieldsOk size fields → fields_have_shape fields vs ≡ true → length bytes ≡ size → length (write_fields fields vs bytes) ≡ size
fields_keep_length size [] vs bytes all ok e h = h
fields_keep_length size (f ∷ fields) [] bytes all ok e h = h
fields_keep_length size (f ∷ fields) (v ∷ vs) bytes all ok e h =
    let p = and_parts (has_shape f.1 v) (fields_have_shape fields vs) e in
    let one = all.0 ok.0.ok v p.0 in
    let inside : f.0 + length (encoding_of f.1 v) ≤ length bytes = omega (arith, ok.0.inside) in
    fields_keep_length size fields vs (with_range_replaced bytes f.0 (encoding_of f.1 v)) all.1 ok.1 p.1 (length-with_range_replaced bytes f.0 (encoding_of f.1 v) inside ∙ h)

pub elements_length : (elem : Ty) (vs : List Val) → HasLength elem → TypeOk elem → elements_pass (has_shape elem) vs ≡ true → length (element_bytes (encoding_of elem) vs) ≡ length vs * size_of elem
elements_length elem [] all ok e = omega arith
elements_length elem (v ∷ vs) all ok e =
    let p = and_parts (has_shape elem v) (elements_pass (has_shape elem) vs) e in
    let one = all ok v p.0 in
    let rest = elements_length elem vs all ok p.1 in
    let both = length-append (encoding_of elem v) (element_bytes (encoding_of elem) vs) in
    grind (arith)

pub chunks_keep_length : (size : ℕ) (chunks : List (ℕ × ℕ)) (content bytes : Bytes) → ChunksInside size chunks → length content ≡ chunks_size chunks → length bytes ≡ size → length (with_chunks chunks content bytes) ≡ size
chunks_keep_length size [] content bytes ok e h = h
chunks_keep_length size (c ∷ chunks) content bytes ok e h =
    let one : length (take c.1 content) ≡ c.1 = omega (arith, length-take c.1 content) in
    let rest : length (drop c.1 content) ≡ chunks_size chunks = omega (arith, length-drop c.1 content) in
    let inside : c.0 + length (take c.1 content) ≤ length bytes = omega (arith, ok.0) in
    chunks_keep_length size chunks (drop c.1 content) (with_range_replaced bytes c.0 (take c.1 content)) ok.1 rest (length-with_range_replaced bytes c.0 (take c.1 content) inside ∙ h)

pub length-tag_bytes : (g : Tag) → length (tag_bytes g) ≡ int_size g.int
length-tag_bytes g = length-initialised None (int_size g.int) (bits_of_number g.int g.number)

pub tags_keep_length : (size : ℕ) (t : Ty) (tags : List Tag) (bytes : Bytes) → are_tags size t tags ≡ true → length bytes ≡ size → length (with_tags tags bytes) ≡ size
tags_keep_length size t [] bytes e h = h
tags_keep_length size t (g ∷ tags) bytes e h =
    let p = first_tag size t g tags e in
    let inside : g.at + length (tag_bytes g) ≤ length bytes = omega (arith, p.inside, length-tag_bytes g) in
    tags_keep_length size t tags (with_range_replaced bytes g.at (tag_bytes g)) p.rest (length-with_range_replaced bytes g.at (tag_bytes g) inside ∙ h)

variant_length : (size : ℕ) (variants : List Variant) (n : Num) (v : Val) → AllVariants HasLength variants → VariantsOk size variants → are_all_tags size variants ≡ true → variant_has_shape variants n v ≡ true → length (write_variant variants n v) ≡ size
variant_length size [] n v all ok tags e = absurd (cc)
variant_length size (w ∷ variants) n v all ok tags e =
    let p = and_parts (are_tags size w.ty w.tags) (are_all_tags size variants) tags in
    chosen (same_num w.number n) (λ here. tags_keep_length size w.ty w.tags (encoding_of w.ty v) p.0 (all.0 ok.0.ok v here ∙ ok.1)) (variant_length size variants n v all.1 ok.2 p.1) e
  where
    chosen : (t : Bool) → (has_shape w.ty v ≡ true → length (with_tags w.tags (encoding_of w.ty v)) ≡ size) → (variant_has_shape variants n v ≡ true → length (write_variant variants n v) ≡ size)
        → (if t then has_shape w.ty v else variant_has_shape variants n v) ≡ true → length (if t then with_tags w.tags (encoding_of w.ty v) else write_variant variants n v) ≡ size
    chosen true here rest e = here e
    chosen false here rest e = rest e

length_cases : TypeCases HasLength
length_cases = record {
  at_int = λ int ok v e. let i = shape_int int v e in
      known (ty.Int int) v _ _ (int_size int) i.is (encode_int int i.bits) (length-initialised None (int_size int) i.bits) (size_int int);
  at_bool = λ ok v e. let i = shape_bool v e in known ty.Bool v _ _ 1 i.is (encode_bool i.truth) refl size_bool;
  at_raw = λ ok v e. let i = shape_raw v e in known ty.Raw v _ _ 8 i.is (encode_raw i.pointer) (length-initialised i.pointer.prov 8 i.pointer.addr) size_raw;
  at_fn_ptr = λ ok v e. let i = shape_fn_ptr v e in known ty.FnPtr v _ _ 8 i.is (encode_fn_ptr i.pointer) (length-initialised i.pointer.prov 8 i.pointer.addr) size_fn_ptr;
  at_ref = λ size align never ok v e. let i = shape_ref size align never v e in
      known (ty.Ref size align never) v _ _ 8 i.is (encode_ref size align never i.pointer) (length-initialised i.pointer.prov 8 i.pointer.addr) (size_ref size align never);
  at_tuple = λ size align fields all ok v e. let i = shape_tuple size align fields v e in
      known (ty.Tuple size align fields) v _ _ size i.is (encode_tuple size align fields i.values)
      (fields_keep_length size fields i.values (blank size) all (tuple_parts size align fields ok) i.shaped (length-replicate size Uninit)) (size_tuple size align fields);
  at_array = λ count elem all ok v e. let i = shape_array count elem v e in
      known (ty.Array count elem) v _ _ (count * size_of elem) i.is (encode_array count elem i.values)
      (elements_length elem i.values all (array_part count elem ok) i.shaped ∙ ap (λ n. n * size_of elem) (eq_from (length i.values) count i.counted)) (size_array count elem);
  at_union = λ size align fields chunks all ok v e. let i = shape_union size align fields chunks v e in
      known (ty.Union size align fields chunks) v _ _ size i.is (encode_union size align fields chunks i.content)
      (chunks_keep_length size chunks i.content (blank size) (union_parts size align fields chunks ok) (eq_from (length i.content) (chunks_size chunks) i.sized) (length-replicate size Uninit)) (size_union size align fields chunks);
  at_enum = λ size align disc variants tree all ok v e. let i = shape_enum size align disc variants tree v e in
      known (ty.Enum size align disc variants tree) v _ _ size i.is (encode_enum size align disc variants tree i.number i.value)
      (variant_length size variants i.number i.value all (enum_parts size align disc variants tree ok).0 (enum_tags size align disc variants tree ok) i.shaped) (size_enum size align disc variants tree);
}

-- a value of the shape of a type is written in as many bytes as the type has
pub length-encoding_of : (t : Ty) → TypeOk t → (v : Val) → has_shape t v ≡ true → length (encoding_of t v) ≡ size_of t
length-encoding_of = type_induction HasLength length_cases
