-- Values that are made of the bytes of others: unions of which a field is written, and transmuted values.
use Rattle.mr_eval.proofs.Common.{◌≡◌, ℕ, ◌+◌, ◌≤◌, List, ◌++◌, Option, None, Some, true, length, sym, ap, ap₂, subst, ◌∙◌, arith, append-nil, slice_get, option_map, drop_all, length-replicate, same_Some, Ty, out-Ty, Ty-F, Variant, size_of, TypeOk, union_ok, with_range_replaced, Done, ◌>>=◌, Val, chunks_in, decoded, blank, encoding_of, Bytes, has_shape, length-encoding_of, field_in, field_type, FieldShaped, union_layer, union_of, or_ill_formed}
use Rattle.mr_base.specs.declared.byte.AbstractByte.TheVariants.{Uninit}
use Rattle.mr_value.proofs.DecodeLaws.{decode_union}
use Rattle.mr_ast.specs.declared.types.Ty.TheVariants as ty
use Rattle.mr_value.specs.declared.val.Val.TheVariants as val
use Rattle.mr_eval.proofs.ShapeOf.{field_inside, replaced_length}

-- the whole of some bytes, replaced
pub replaced_whole : (bytes : Bytes) (n : ℕ) → n ≡ length bytes → with_range_replaced (blank n) 0 bytes ≡ bytes
replaced_whole bytes n e =
    ap (λ (rest : Bytes). bytes ++ rest) (drop_all (0 + length bytes) (blank n) (omega (arith, length-replicate n Uninit, e)))
    ∙ append-nil bytes

-- a field of a union, and a value of its shape
pub record PartFits (size : ℕ) (f : ℕ × Ty) (v : Val) : Type 0 where
  pub ok : TypeOk f.1
  pub shape : has_shape f.1 v ≡ true
  pub inside : f.0 + length (encoding_of f.1 v) ≤ size

module _ (size align : ℕ) (fields : List (ℕ × Ty)) (chunks : List (ℕ × ℕ)) (k : ℕ) (f : ℕ × Ty) (v : Val) (t : Ty) (is : t ≡ ty.Union size align fields chunks) (there : slice_get fields k ≡ Some f) where
  layer : out-Ty t ≡ Ty-F.Union size align fields chunks
  layer = ap out-Ty is ∙ ty.outs-Union size align fields chunks

  pub union_part : TypeOk t → FieldShaped t k v → PartFits size f v
  union_part ok h =
      let parts = union_ok size align fields chunks (subst TypeOk is ok) in
      let part = field_inside size fields k f parts.parts there in
      let found : field_type t k ≡ Some f.1 = ap (λ (l : Ty-F Ty Variant). field_in l k) layer ∙ ap (option_map (λ (g : ℕ × Ty). g.1)) there in
      let shaped : has_shape f.1 v ≡ true = subst (λ (w : Ty). has_shape w v ≡ true) (same_Some h.ty f.1 (sym h.is ∙ found)) h.shape in
      let sized : length (encoding_of f.1 v) ≡ size_of f.1 = length-encoding_of f.1 part.ok v shaped in
      record { ok = part.ok; shape = shaped; inside = omega (arith, sized, part.inside) }

  -- what is made of it
  pub union_made : (bytes : Bytes) (x : Val) → bytes ≡ with_range_replaced (blank size) f.0 (encoding_of f.1 v) → decoded t bytes ≡ Some x → union_of t k v ≡ Done x
  union_made bytes x e d =
      let content = chunks_in chunks (with_range_replaced (blank size) f.0 (encoding_of f.1 v)) in
      let whole : x ≡ val.Union content = same_Some x (val.Union content) (sym d ∙ ap₂ decoded is e ∙ decode_union size align fields chunks _) in
      let kept : union_layer (out-Ty t) k v ≡ Some content =
      ap (λ (l : Ty-F Ty Variant). union_layer l k v) layer
      ∙ ap (option_map (λ (g : ℕ × Ty). chunks_in chunks (with_range_replaced (blank size) g.0 (encoding_of g.1 v)))) there in
      ap (λ (o : Option Bytes). or_ill_formed o >>= (λ (b : Bytes). Done (val.Union b))) kept ∙ ap Done (sym whole)

  -- bytes of the union's size always mean a union
  pub union_means : (bytes : Bytes) → decoded t bytes ≡ None → ⊥
  union_means bytes d = absurd (none (chunks_in chunks bytes) (sym d ∙ ap (λ (u : Ty). decoded u bytes) is ∙ decode_union size align fields chunks bytes))
    where
      none : (c : Bytes) → None ≡ Some (val.Union c) → ⊥
      none c e = absurd (cc)

pub ruleset laid_laws = (replaced_length)

pub ruleset union_laws = (union_part, union_made, union_means)

pub ruleset transmute_laws = (replaced_whole)

-- as many bytes as the other type has
pub transmute_sized : (from to : Ty) (v : Val) (bytes : Bytes) → TypeOk from → has_shape from v ≡ true → size_of from ≡ size_of to → bytes ≡ encoding_of from v → length bytes ≡ size_of to
transmute_sized from to v bytes ok shape same e = ap length e ∙ length-encoding_of from ok v shape ∙ same
