-- The bytes that a value is written as. (MiniRust, language: representation of values.)
use Rattle.std.specs.Prelude.{◌≡◌, ℕ, if◌then◌else◌, List, [], ◌∷◌, ◌++◌, map, take, drop, replicate, None}
use Rattle.mr_ast.specs.declared.types.Num.{Num}
use Rattle.mr_ast.specs.declared.types.Tag.{Tag}
use Rattle.mr_ast.specs.declared.types.Ty.{Ty}
use Rattle.mr_ast.specs.declared.types.Ty.TheOpen.{Ty-F}
use Rattle.mr_ast.specs.declared.types.Ty.TheFolds.{para-Ty}
use Rattle.mr_ast.specs.declared.types.Variant.{Variant}
use Rattle.mr_base.specs.declared.byte.AbstractByte.TheVariants.{Uninit}
use Rattle.mr_ast.specs.Integers.{int_size}
use Rattle.mr_layout.specs.EnumRules.{same_num}
use Rattle.mr_runs.specs.Ranges.{with_range_replaced}
use Rattle.mr_runs.specs.Numbers.{with_provenance}
use Rattle.mr_value.specs.declared.val.Val.{Val, out-Val}
use Rattle.mr_value.specs.declared.val.Val.TheOpen.{Val-F}
use Rattle.mr_value.specs.Numbers.{Bytes, little_endian, pointer_bytes}
use Rattle.mr_value.specs.Discriminants.{bits_of_number}

-- how a value is written
abbrev pub Writer : Type 0
Writer = Val → Bytes

-- so many uninitialised bytes
abbrev pub blank : ℕ → Bytes
blank n = replicate n Uninit

-- bytes into which the values of fields are written, each at its offset
abbrev pub with_fields : List (ℕ × (Ty × Writer)) → List Val → Bytes → Bytes
with_fields (f ∷ fields) (v ∷ vs) bytes = with_fields fields vs (with_range_replaced bytes f.0 (f.1.1 v))
with_fields _ _ bytes = bytes

-- elements, one behind the other
abbrev pub element_bytes : Writer → List Val → Bytes
element_bytes write [] = []
element_bytes write (v ∷ vs) = write v ++ element_bytes write vs

-- bytes into which content is written in pieces, each in its chunk
abbrev pub with_chunks : List (ℕ × ℕ) → Bytes → Bytes → Bytes
with_chunks [] content bytes = bytes
with_chunks (c ∷ chunks) content bytes =
    with_chunks chunks (drop c.1 content) (with_range_replaced bytes c.0 (take c.1 content))

-- the bytes of a tag's number
abbrev pub tag_bytes : Tag → Bytes
tag_bytes g = with_provenance None (little_endian (int_size g.int) (bits_of_number g.int g.number))

-- bytes into which tags are written, each at its offset
abbrev pub with_tags : List Tag → Bytes → Bytes
with_tags [] bytes = bytes
with_tags (g ∷ tags) bytes = with_tags tags (with_range_replaced bytes g.at (tag_bytes g))

-- a value of the variant with a number, as the variant's type writes it, and the variant's tags over that
abbrev pub variant_bytes : List (Variant × Writer) → Num → Val → Bytes
variant_bytes [] n v = []
variant_bytes (w ∷ variants) n v =
    if same_num w.0.number n then with_tags w.0.tags (w.1 v) else variant_bytes variants n v

-- one level of a type and one of a value, with each part of the type beside how it is written
abbrev pub encode_step : Ty-F (Ty × Writer) (Variant × Writer) → Val-F Val → Bytes
encode_step (Ty-F.Int int) (Val-F.Int n) = with_provenance None (little_endian (int_size int) n)
encode_step Ty-F.Bool (Val-F.Bool b) = with_provenance None ((if b then 1 else 0) ∷ [])
encode_step Ty-F.Raw (Val-F.Ptr p) = pointer_bytes p
encode_step Ty-F.FnPtr (Val-F.Ptr p) = pointer_bytes p
encode_step (Ty-F.Ref size align never) (Val-F.Ptr p) = pointer_bytes p
encode_step (Ty-F.Tuple size align fields) (Val-F.Tuple vs) = with_fields fields vs (blank size)
encode_step (Ty-F.Array count elem) (Val-F.Tuple vs) = element_bytes elem.1 vs
encode_step (Ty-F.Union size align fields chunks) (Val-F.Union content) = with_chunks chunks content (blank size)
encode_step (Ty-F.Enum size align disc variants tree) (Val-F.Variant n v) = variant_bytes variants n v
encode_step _ _ = []

-- the bytes of a value that has the shape of a type; those that no part writes are uninitialised
unfoldable pub encoding_of : Ty → Writer
encoding_of = para-Ty Writer Writer (λ layer v. encode_step layer (out-Val v)) (λ v. v.ty.1)

-- the same of fields and of a variant, each with its type alone
abbrev pub write_fields : List (ℕ × Ty) → List Val → Bytes → Bytes
write_fields fields = with_fields (map (λ f. (f.0, (f.1, encoding_of f.1))) fields)

-- the bytes of a variant
abbrev pub write_variant : List Variant → Num → Val → Bytes
write_variant [] n v = []
write_variant (w ∷ variants) n v =
    if same_num w.number n then with_tags w.tags (encoding_of w.ty v) else write_variant variants n v

-- a list of bytes begins with another
abbrev pub BeginsWith : Bytes → Bytes → Type 0
BeginsWith bytes front = (rest : Bytes) × (bytes ≡ front ++ rest)
