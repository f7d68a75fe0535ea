-- The equations of `encoding_of`, one for each kind of type, at values of its shape.
use Rattle.mr_value.proofs.Common.{◌≡◌, ℕ, Bool, List, [], ◌∷◌, None, map, refl, sym, ap, ◌∙◌, if◌then◌else◌, IntType, Num, Tree, Ty, roll-Ty, Ty-F, map-Ty, para-Variant, para-roll-Ty, para-roll-Variant, Variant, out-Variant, Pointer, int_size, with_provenance, Val, out-Val, Bytes, little_endian, pointer_bytes, blank, element_bytes, with_chunks, encoding_of, write_fields, write_variant}
use Rattle.mr_value.specs.Encode.{Writer, variant_bytes, encode_step}
use Rattle.mr_ast.specs.declared.types.Ty.TheVariants as ty
use Rattle.mr_value.specs.declared.val.Val.TheVariants as val

unfoldable variant_writer : Variant → Writer
variant_writer = para-Variant Writer Writer (λ layer v. encode_step layer (out-Val v)) (λ v. v.ty.1)

-- one level, at a type that is made of it
encode_roll : (d : Ty-F Ty Variant) (v : Val) → encoding_of (roll-Ty d) v ≡ encode_step (map-Ty Ty Variant (Ty × Writer) (Variant × Writer) (λ t. (t, encoding_of t)) (λ w. (w, variant_writer w)) d) (out-Val v)
unfolding encoding_of variant_writer
encode_roll d v = ap (λ (w : Writer). w v) (para-roll-Ty Writer Writer (λ layer v. encode_step layer (out-Val v)) (λ v. v.ty.1) d)

pub encode_int : (int : IntType) (n : ℕ) → encoding_of (ty.Int int) (val.Int n) ≡ with_provenance None (little_endian (int_size int) n)
encode_int int n =
    ap (λ t. encoding_of t (val.Int n)) (sym (ty.rolls-Int int)) ∙ encode_roll (Ty-F.Int int) (val.Int n)
    ∙ ap (encode_step (Ty-F.Int int)) (val.outs-Int n)

pub encode_bool : (b : Bool) → encoding_of ty.Bool (val.Bool b) ≡ with_provenance None ((if b then 1 else 0) ∷ [])
encode_bool b = ap (λ t. encoding_of t (val.Bool b)) (sym ty.rolls-Bool) ∙ encode_roll Ty-F.Bool (val.Bool b) ∙ ap (encode_step Ty-F.Bool) (val.outs-Bool b)

pub encode_raw : (p : Pointer) → encoding_of ty.Raw (val.Ptr p) ≡ pointer_bytes p
encode_raw p = ap (λ t. encoding_of t (val.Ptr p)) (sym ty.rolls-Raw) ∙ encode_roll Ty-F.Raw (val.Ptr p) ∙ ap (encode_step Ty-F.Raw) (val.outs-Ptr p)

pub encode_fn_ptr : (p : Pointer) → encoding_of ty.FnPtr (val.Ptr p) ≡ pointer_bytes p
encode_fn_ptr p = ap (λ t. encoding_of t (val.Ptr p)) (sym ty.rolls-FnPtr) ∙ encode_roll Ty-F.FnPtr (val.Ptr p) ∙ ap (encode_step Ty-F.FnPtr) (val.outs-Ptr p)

pub encode_ref : (size align : ℕ) (never : Bool) (p : Pointer) → encoding_of (ty.Ref size align never) (val.Ptr p) ≡ pointer_bytes p
encode_ref size align never p =
    ap (λ t. encoding_of t (val.Ptr p)) (sym (ty.rolls-Ref size align never)) ∙ encode_roll (Ty-F.Ref size align never) (val.Ptr p)
    ∙ ap (encode_step (Ty-F.Ref size align never)) (val.outs-Ptr p)

pub encode_tuple : (size align : ℕ) (fields : List (ℕ × Ty)) (vs : List Val) → encoding_of (ty.Tuple size align fields) (val.Tuple vs) ≡ write_fields fields vs (blank size)
encode_tuple size align fields vs =
    ap (λ t. encoding_of t (val.Tuple vs)) (sym (ty.rolls-Tuple size align fields)) ∙ encode_roll (Ty-F.Tuple size align fields) (val.Tuple vs)
    ∙ ap (encode_step (Ty-F.Tuple size align (map (λ (f : ℕ × Ty). (f.0, (f.1, encoding_of f.1))) fields))) (val.outs-Tuple vs)

pub encode_array : (count : ℕ) (elem : Ty) (vs : List Val) → encoding_of (ty.Array count elem) (val.Tuple vs) ≡ element_bytes (encoding_of elem) vs
encode_array count elem vs =
    ap (λ t. encoding_of t (val.Tuple vs)) (sym (ty.rolls-Array count elem)) ∙ encode_roll (Ty-F.Array count elem) (val.Tuple vs)
    ∙ ap (encode_step (Ty-F.Array count (elem, encoding_of elem))) (val.outs-Tuple vs)

pub encode_union : (size align : ℕ) (fields : List (ℕ × Ty)) (chunks : List (ℕ × ℕ)) (content : Bytes) → encoding_of (ty.Union size align fields chunks) (val.Union content) ≡ with_chunks chunks content (blank size)
encode_union size align fields chunks content =
    ap (λ t. encoding_of t (val.Union content)) (sym (ty.rolls-Union size align fields chunks)) ∙ encode_roll (Ty-F.Union size align fields chunks) (val.Union content)
    ∙ ap (encode_step (Ty-F.Union size align [] chunks)) (val.outs-Union content)

variant_writer_is : (w : Variant) (v : Val) → variant_writer w v ≡ encoding_of w.ty v
unfolding encoding_of variant_writer
variant_writer_is w v = ap (λ (x : Writer). x v) (para-roll-Variant Writer Writer (λ layer v. encode_step layer (out-Val v)) (λ v. v.ty.1) (out-Variant w))

variant_bytes_is : (variants : List Variant) (n : Num) (v : Val) → variant_bytes (map (λ w. (w, variant_writer w)) variants) n v ≡ write_variant variants n v
variant_bytes_is [] n v = refl
variant_bytes_is (w ∷ variants) n v = rw (variant_writer_is w v, variant_bytes_is variants n v)

pub encode_enum : (size align : ℕ) (disc : IntType) (variants : List Variant) (tree : Tree) (n : Num) (v : Val) → encoding_of (ty.Enum size align disc variants tree) (val.Variant n v) ≡ write_variant variants n v
encode_enum size align disc variants tree n v =
    ap (λ t. encoding_of t (val.Variant n v)) (sym (ty.rolls-Enum size align disc variants tree)) ∙ encode_roll (Ty-F.Enum size align disc variants tree) (val.Variant n v)
    ∙ ap (encode_step (Ty-F.Enum size align disc (map (λ (w : Variant). (w, variant_writer w)) variants) tree)) (val.outs-Variant n v)
    ∙ variant_bytes_is variants n v

pub ruleset encode_laws = (encode_int, encode_bool, encode_raw, encode_fn_ptr, encode_ref, encode_tuple, encode_array, encode_union, encode_enum)
