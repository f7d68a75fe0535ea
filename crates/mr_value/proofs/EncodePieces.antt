-- What is written for fields, chunks and tags, as pieces.
use Rattle.mr_value.proofs.Common.{◌≡◌, ℕ, ◌+◌, ◌≤◌, true, List, [], ◌∷◌, length, take, drop, refl, ap, ◌∙◌, arith, length-take, length-drop, ◌||◌, and_parts, Tag, Ty, are_tags, FieldsOk, ChunksInside, meets_any, meets_chunk, size_of, int_size, is_in, is_in_chunk, is_in_tag, with_range_replaced, Val, Bytes, with_chunks, tag_bytes, with_tags, encoding_of, write_fields, chunks_size, has_shape, fields_have_shape}
use Rattle.mr_base.specs.Pairs.{is_meeting}
use Rattle.mr_value.proofs.EncodeLength.{length-encoding_of, length-tag_bytes}
use Rattle.mr_value.proofs.Pieces.{with_pieces, PiecesInside, is_in_piece, meets_piece}
use Rattle.mr_value.proofs.TagParts.{first_tag}

-- each value's encoding at its field's offset
abbrev pub field_pieces : List (ℕ × Ty) → List Val → List (ℕ × Bytes)
field_pieces [] vs = []
field_pieces (f ∷ fields) [] = []
field_pieces (f ∷ fields) (v ∷ vs) = (f.0, encoding_of f.1 v) ∷ field_pieces fields vs

pub write_fields_is : (fields : List (ℕ × Ty)) (vs : List Val) (bytes : Bytes) → write_fields fields vs bytes ≡ with_pieces (field_pieces fields vs) bytes
write_fields_is [] vs bytes = refl
write_fields_is (f ∷ fields) [] bytes = refl
write_fields_is (f ∷ fields) (v ∷ vs) bytes = write_fields_is fields vs (with_range_replaced bytes f.0 (encoding_of f.1 v))

pub fields_inside : (size : ℕ) (fields : List (ℕ × Ty)) (vs : List Val) → FieldsOk size fields → fields_have_shape fields vs ≡ true → PiecesInside size (field_pieces fields vs)
fields_inside size [] vs ok e = tt
fields_inside size (f ∷ fields) [] ok e = tt
fields_inside size (f ∷ fields) (v ∷ vs) ok e =
    let p = and_parts (has_shape f.1 v) (fields_have_shape fields vs) e in
    let long = length-encoding_of f.1 ok.0.ok v p.0 in
    let here : f.0 + length (encoding_of f.1 v) ≤ size = omega (arith, ok.0.inside) in
    (here, fields_inside size fields vs ok.1 p.1)

pub meets_fields : (size start len : ℕ) (fields : List (ℕ × Ty)) (vs : List Val) → FieldsOk size fields → fields_have_shape fields vs ≡ true → meets_piece start len (field_pieces fields vs) ≡ meets_any start len fields
meets_fields size start len [] [] ok e = refl
meets_fields size start len [] (v ∷ vs) ok e = cc
meets_fields size start len (f ∷ fields) [] ok e = cc
meets_fields size start len (f ∷ fields) (v ∷ vs) ok e =
    let p = and_parts (has_shape f.1 v) (fields_have_shape fields vs) e in
    ap (λ n. is_meeting start len f.0 n || meets_piece start len (field_pieces fields vs)) (length-encoding_of f.1 ok.0.ok v p.0)
    ∙ ap (λ t. is_meeting start len f.0 (size_of f.1) || t) (meets_fields size start len fields vs ok.1 p.1)

-- the content in pieces, each at its chunk's offset
abbrev pub chunk_pieces : List (ℕ × ℕ) → Bytes → List (ℕ × Bytes)
chunk_pieces [] content = []
chunk_pieces (c ∷ chunks) content = (c.0, take c.1 content) ∷ chunk_pieces chunks (drop c.1 content)

pub with_chunks_is : (chunks : List (ℕ × ℕ)) (content bytes : Bytes) → with_chunks chunks content bytes ≡ with_pieces (chunk_pieces chunks content) bytes
with_chunks_is [] content bytes = refl
with_chunks_is (c ∷ chunks) content bytes = with_chunks_is chunks (drop c.1 content) (with_range_replaced bytes c.0 (take c.1 content))

pub length-taken : (c : ℕ × ℕ) (chunks : List (ℕ × ℕ)) (content : Bytes) → length content ≡ chunks_size (c ∷ chunks) → length (take c.1 content) ≡ c.1
length-taken c chunks content h = omega (arith, length-take c.1 content)

pub length-left : (c : ℕ × ℕ) (chunks : List (ℕ × ℕ)) (content : Bytes) → length content ≡ chunks_size (c ∷ chunks) → length (drop c.1 content) ≡ chunks_size chunks
length-left c chunks content h = omega (arith, length-drop c.1 content)

pub chunks_inside : (size : ℕ) (chunks : List (ℕ × ℕ)) (content : Bytes) → ChunksInside size chunks → length content ≡ chunks_size chunks → PiecesInside size (chunk_pieces chunks content)
chunks_inside size [] content ok h = tt
chunks_inside size (c ∷ chunks) content ok h =
    let here : c.0 + length (take c.1 content) ≤ size = omega (arith, length-taken c chunks content h, ok.0) in
    (here, chunks_inside size chunks (drop c.1 content) ok.1 (length-left c chunks content h))

pub meets_chunks : (start len : ℕ) (chunks : List (ℕ × ℕ)) (content : Bytes) → length content ≡ chunks_size chunks → meets_piece start len (chunk_pieces chunks content) ≡ meets_chunk start len chunks
meets_chunks start len [] content h = refl
meets_chunks start len (c ∷ chunks) content h =
    ap (λ n. is_meeting start len c.0 n || meets_piece start len (chunk_pieces chunks (drop c.1 content))) (length-taken c chunks content h)
    ∙ ap (λ t. is_meeting start len c.0 c.1 || t) (meets_chunks start len chunks (drop c.1 content) (length-left c chunks content h))

pub in_chunks : (chunks : List (ℕ × ℕ)) (content : Bytes) (i : ℕ) → length content ≡ chunks_size chunks → is_in_piece (chunk_pieces chunks content) i ≡ is_in_chunk chunks i
in_chunks [] content i h = refl
in_chunks (c ∷ chunks) content i h =
    ap (λ n. is_in c.0 n i || is_in_piece (chunk_pieces chunks (drop c.1 content)) i) (length-taken c chunks content h)
    ∙ ap (λ t. is_in c.0 c.1 i || t) (in_chunks chunks (drop c.1 content) i (length-left c chunks content h))

-- each tag's bytes at its offset
abbrev pub tag_pieces : List Tag → List (ℕ × Bytes)
tag_pieces [] = []
tag_pieces (g ∷ tags) = (g.at, tag_bytes g) ∷ tag_pieces tags

pub with_tags_is : (tags : List Tag) (bytes : Bytes) → with_tags tags bytes ≡ with_pieces (tag_pieces tags) bytes
with_tags_is [] bytes = refl
with_tags_is (g ∷ tags) bytes = with_tags_is tags (with_range_replaced bytes g.at (tag_bytes g))

pub tags_inside : (size : ℕ) (t : Ty) (tags : List Tag) → are_tags size t tags ≡ true → PiecesInside size (tag_pieces tags)
tags_inside size t [] e = tt
tags_inside size t (g ∷ tags) e =
    let p = first_tag size t g tags e in
    let here : g.at + length (tag_bytes g) ≤ size = omega (arith, length-tag_bytes g, p.inside) in
    (here, tags_inside size t tags p.rest)

pub in_tags : (tags : List Tag) (i : ℕ) → is_in_piece (tag_pieces tags) i ≡ is_in_tag tags i
in_tags [] i = refl
in_tags (g ∷ tags) i =
    ap (λ n. is_in g.at n i || is_in_piece (tag_pieces tags) i) (length-tag_bytes g)
    ∙ ap (λ t. is_in g.at (int_size g.int) i || t) (in_tags tags i)
