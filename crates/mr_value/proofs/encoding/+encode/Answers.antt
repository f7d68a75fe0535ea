use Rattle.mr_value.proofs.Common.{ℕ, true, subst, ◌≡◌, ◌+◌, ◌≤◌, ◌<◌, ◌++◌, List, [], drop, get_or, length, sym, ap, ◌∙◌, arith, ◌==◌, and_parts, Ty, Variant, weight_of, fields_weight, same_num, are_all_tags, size_of, is_ok, are_ok, are_chunks_ok, are_variants_ok, ok_of, ok_tuple, ok_array, ok_union, ok_enum, with_range_replaced, length-with_range_replaced, Val, Bytes, encoding_of, write_fields, chunks_size, elements_pass, has_shape, fields_have_shape, variant_has_shape, eq_from}
use Rattle.mr_ast.proofs.WeightLaws.{weight_tuple, weight_field}
use Rattle.mr_ast.specs.declared.types.Ty.TheVariants as ty
use Rattle.mr_value.specs.declared.val.Val.TheVariants as val
use Rattle.mr_value.proofs.DecodeSteps.{next_field, next_variant}
use Rattle.mr_value.proofs.EncodeLength.{length-encoding_of}
use Rattle.mr_value.proofs.EncodeSteps.{same_length, next_value, fields_written, variant_shaped_here, equal_is}
use Rattle.mr_value.proofs.ShapeLaws.{shape_int, shape_bool, shape_raw, shape_fn_ptr, shape_ref, shape_tuple, shape_array, shape_union, shape_enum, has_tuple, has_array, has_union, has_enum}
use Rattle.mr_value.proofs.TagParts.{enum_tags}
use Rattle.mr_value.proofs.Weights.{weight_array, weight_enum, weight_variant, variants_weight}
use Rattle.mr_value.proofs.encoding.+encode.Goals as goal

pub append-bits_in-requires : goal.append-bits_in-requires
append-bits_in-requires t c =
    let s = shape_int c.in-Int.int c.args.v.now (sym (ap (λ x. has_shape x c.args.v.now) c.in-Int.is) ∙ c.requires.shape) in (s.bits, s.is)

pub append-truth_in-requires : goal.append-truth_in-requires
append-truth_in-requires t c = let s = shape_bool c.args.v.now (sym (ap (λ x. has_shape x c.args.v.now) c.in-Bool.is) ∙ c.requires.shape) in (s.truth, s.is)

pub append-pointer_in-requires : goal.append-pointer_in-requires
append-pointer_in-requires t c = let s = shape_raw c.args.v.now (sym (ap (λ x. has_shape x c.args.v.now) c.in-Raw.is) ∙ c.requires.shape) in (s.pointer, s.is)

pub append-pointer_in-requires-in-FnPtr : goal.append-pointer_in-requires-in-FnPtr
append-pointer_in-requires-in-FnPtr t c = let s = shape_fn_ptr c.args.v.now (sym (ap (λ x. has_shape x c.args.v.now) c.in-FnPtr.is) ∙ c.requires.shape) in (s.pointer, s.is)

pub append-pointer_in-requires-in-Ref : goal.append-pointer_in-requires-in-Ref
append-pointer_in-requires-in-Ref t c =
    let i = c.in-Ref in
    let s = shape_ref i.size i.align i.never c.args.v.now (sym (ap (λ x. has_shape x c.args.v.now) i.is) ∙ c.requires.shape) in (s.pointer, s.is)

pub append-values_in-requires : goal.append-values_in-requires
append-values_in-requires t c =
    let i = c.in-Tuple in
    let s = shape_tuple i.size i.align i.fields c.args.v.now (sym (ap (λ x. has_shape x c.args.v.now) i.is) ∙ c.requires.shape) in (s.values, s.is)

pub append-tuple_bytes-requires : goal.append-tuple_bytes-requires
append-tuple_bytes-requires t c =
    let i = c.in-Tuple in
    let vs = c.values_in.result.now in
    let same = c.as_slice.ensures in
    let o : are_ok i.size c.as_slice.result.now ≡ true = ap (are_ok i.size) same ∙ ok_tuple i.size i.align i.fields (sym (ap is_ok i.is) ∙ c.requires.ok) in
    let whole : has_shape (ty.Tuple i.size i.align i.fields) (val.Tuple vs) ≡ true =
    sym (ap (λ x. has_shape x c.args.v.now) i.is ∙ ap (has_shape (ty.Tuple i.size i.align i.fields)) c.values_in.ensures) ∙ c.requires.shape in
    let s : fields_have_shape c.as_slice.result.now vs ≡ true = ap (λ (x : List (ℕ × Ty)). fields_have_shape x vs) same ∙ sym (has_tuple i.size i.align i.fields vs) ∙ whole in
    let w : weight_of c.args.t.now ≡ 1 + fields_weight c.as_slice.result.now = ap weight_of i.is ∙ weight_tuple i.size i.align i.fields ∙ ap (λ fs. 1 + fields_weight fs) (sym same) in
    (omega (arith, c.decreases), (o, s))

pub append-values_in-requires-in-Array : goal.append-values_in-requires-in-Array
append-values_in-requires-in-Array t c =
    let i = c.in-Array in
    let s = shape_array i.count i.elem c.args.v.now (sym (ap (λ x. has_shape x c.args.v.now) i.is) ∙ c.requires.shape) in (s.values, s.is)

pub append-append_elements-requires : goal.append-append_elements-requires
append-append_elements-requires t c =
    let i = c.in-Array in
    let vs = c.values_in-in-Array.result.now in
    let same = c.get.ensures in
    let o : is_ok c.get.result.now ≡ true = ap is_ok same ∙ ok_array i.count i.elem (sym (ap is_ok i.is) ∙ c.requires.ok) in
    let whole : has_shape (ty.Array i.count i.elem) (val.Tuple vs) ≡ true =
    sym (ap (λ x. has_shape x c.args.v.now) i.is ∙ ap (has_shape (ty.Array i.count i.elem)) c.values_in-in-Array.ensures) ∙ c.requires.shape in
    let s : elements_pass (has_shape c.get.result.now) vs ≡ true =
    ap (λ x. elements_pass (has_shape x) vs) same ∙ (and_parts (length vs == i.count) (elements_pass (has_shape i.elem) vs) (sym (has_array i.count i.elem vs) ∙ whole)).1 in
    let w : weight_of c.args.t.now ≡ 1 + weight_of c.get.result.now = ap weight_of i.is ∙ weight_array i.count i.elem ∙ ap (λ x. 1 + weight_of x) (sym same) in
    (omega (arith, c.decreases), (o, s))

pub append-content_in-requires : goal.append-content_in-requires
append-content_in-requires t c =
    let i = c.in-Union in
    let s = shape_union i.size i.align i.fields i.chunks c.args.v.now (sym (ap (λ x. has_shape x c.args.v.now) i.is) ∙ c.requires.shape) in (s.content, s.is)

pub append-union_bytes-requires-clause-ok : goal.append-union_bytes-requires-clause-ok
append-union_bytes-requires-clause-ok t c =
    let i = c.in-Union in
    ap (are_chunks_ok i.size) c.as_slice-in-Union.ensures ∙ ok_union i.size i.align i.fields i.chunks (sym (ap is_ok i.is) ∙ c.requires.ok)

pub append-union_bytes-requires-clause-sized : goal.append-union_bytes-requires-clause-sized
append-union_bytes-requires-clause-sized t c =
    let i = c.in-Union in
    let content = c.content_in.result.now in
    let whole : has_shape (ty.Union i.size i.align i.fields i.chunks) (val.Union content) ≡ true =
    sym (ap (λ x. has_shape x c.args.v.now) i.is ∙ ap (has_shape (ty.Union i.size i.align i.fields i.chunks)) c.content_in.ensures) ∙ c.requires.shape in
    eq_from (length content) (chunks_size i.chunks) (sym (has_union i.size i.align i.fields i.chunks content) ∙ whole) ∙ ap chunks_size (sym c.as_slice-in-Union.ensures)

pub append-variant_in-requires : goal.append-variant_in-requires
append-variant_in-requires t c =
    let i = c.in-Enum in
    let s = shape_enum i.size i.align i.disc i.variants i.tree c.args.v.now (sym (ap (λ x. has_shape x c.args.v.now) i.is) ∙ c.requires.shape) in (s.number, (s.value, s.is))

pub append-variant_bytes-requires : goal.append-variant_bytes-requires
append-variant_bytes-requires t c =
    let i = c.in-Enum in
    let n = c.variant_in.result.0 in
    let value = c.variant_in.result.1.now in
    let same = c.as_slice-in-Enum.ensures in
    let vs = c.as_slice-in-Enum.result.now in
    let ok = sym (ap is_ok i.is) ∙ c.requires.ok in
    let o : are_variants_ok i.size vs ≡ true = ap (are_variants_ok i.size) same ∙ (ok_enum i.size i.align i.disc i.variants i.tree ok).0 in
    let g : are_all_tags i.size vs ≡ true = ap (are_all_tags i.size) same ∙ enum_tags i.size i.align i.disc i.variants i.tree (ok_of (ty.Enum i.size i.align i.disc i.variants i.tree) ok) in
    let whole : has_shape (ty.Enum i.size i.align i.disc i.variants i.tree) (val.Variant n value) ≡ true =
    sym (ap (λ x. has_shape x c.args.v.now) i.is ∙ ap (has_shape (ty.Enum i.size i.align i.disc i.variants i.tree)) c.variant_in.ensures) ∙ c.requires.shape in
    let s : variant_has_shape vs n value ≡ true = ap (λ (x : List Variant). variant_has_shape x n value) same ∙ sym (has_enum i.size i.align i.disc i.variants i.tree n value) ∙ whole in
    let w : weight_of c.args.t.now ≡ 1 + variants_weight vs = ap weight_of i.is ∙ weight_enum i.size i.align i.disc i.variants i.tree ∙ ap (λ x. 1 + variants_weight x) (sym same) in
    (omega (arith, c.decreases), (o, (g, s)))

pub tuple_bytes-append-requires : goal.tuple_bytes-append-requires
tuple_bytes-append-requires t c =
    let l = c.loop-i in
    let f = c.index-fields-i.result in
    let v = c.index-values-i.result in
    let fields = c.args.fields.now in
    let values = c.args.values.now in
    let same = same_length fields values c.requires.shape in
    let n = next_field c.args.size fields l.i f (omega arith) l.invariant.ok in
    let x = next_value fields values l.i f v (omega arith) (omega arith) l.invariant.shape in
    let ok : is_ok f.1 ≡ true = ap (λ (y : ℕ × Ty). is_ok y.1) c.index-fields-i.is ∙ n.ok in
    let shape : has_shape f.1 v ≡ true = ap (λ (y : ℕ × Ty). has_shape y.1 v) c.index-fields-i.is ∙ ap (has_shape (get_or fields l.i f).1) c.index-values-i.is ∙ x.here in
    let falls : weight_of f.1 < fields_weight fields = subst (λ (y : ℕ × Ty). weight_of y.1 < fields_weight fields) (sym c.index-fields-i.is) (weight_field fields l.i f (omega arith)) in
    (omega (arith, c.decreases), (ok, shape))

-- what the loop over fields knows of the next one: its encoding lies inside
record Written (size : ℕ) (fields : List (ℕ × Ty)) (values : List Val) (i : ℕ) (f : ℕ × Ty) (v : Val) (piece : Bytes) : Type 0 where
  is : piece ≡ encoding_of (get_or fields i f).1 (get_or values i v)
  inside : f.0 + length piece ≤ size
  ok : are_ok size (drop (i + 1) fields) ≡ true
  shape : fields_have_shape (drop (i + 1) fields) (drop (i + 1) values) ≡ true

written : (size : ℕ) (fields : List (ℕ × Ty)) (values : List Val) (i : ℕ) (f : ℕ × Ty) (v : Val) (piece start : Bytes) → i < length fields → i < length values → f ≡ get_or fields i f → v ≡ get_or values i v
    → are_ok size (drop i fields) ≡ true → fields_have_shape (drop i fields) (drop i values) ≡ true → start ≡ [] → piece ≡ start ++ encoding_of f.1 v → Written size fields values i f v piece
written size fields values i f v piece start p q f_is v_is o s e h =
    let n = next_field size fields i f p o in
    let x = next_value fields values i f v p q s in
    let is = h ∙ ap (λ (b : Bytes). b ++ encoding_of f.1 v) e ∙ ap (λ (y : ℕ × Ty). encoding_of y.1 v) f_is ∙ ap (encoding_of (get_or fields i f).1) v_is in
    let long : length piece ≡ size_of (get_or fields i f).1 = ap length is ∙ length-encoding_of (get_or fields i f).1 (ok_of (get_or fields i f).1 n.ok) (get_or values i v) x.here in
    let place : f.0 ≡ (get_or fields i f).0 = ap (λ (y : ℕ × Ty). y.0) f_is in
    record { is = is; inside = omega (arith, n.inside); ok = n.rest; shape = x.rest }

pub tuple_bytes-replace-requires : goal.tuple_bytes-replace-requires
tuple_bytes-replace-requires t c =
    let l = c.loop-i in
    let same = same_length c.args.fields.now c.args.values.now c.requires.shape in
    let w = written c.args.size c.args.fields.now c.args.values.now l.i c.index-fields-i.result c.index-values-i.result c.as_slice.result.now c.new-piece.result.items
    (omega arith) (omega arith) c.index-fields-i.is c.index-values-i.is l.invariant.ok l.invariant.shape c.new-piece.ensures.items (c.as_slice.ensures.value ∙ c.in_ok-append.ensures.ok) in
    omega (arith, w.inside, l.invariant.sized)

pub tuple_bytes-loop-i-preserved : goal.tuple_bytes-loop-i-preserved
tuple_bytes-loop-i-preserved t c =
    let l = c.loop-i in
    let fields = c.args.fields.now in
    let values = c.args.values.now in
    let f = c.index-fields-i.result in
    let v = c.index-values-i.result in
    let piece = c.as_slice.result.now in
    let same = same_length fields values c.requires.shape in
    let w = written c.args.size fields values l.i f v piece c.new-piece.result.items
    (omega arith) (omega arith) c.index-fields-i.is c.index-values-i.is l.invariant.ok l.invariant.shape c.new-piece.ensures.items (c.as_slice.ensures.value ∙ c.in_ok-append.ensures.ok) in
    let inside : f.0 + length piece ≤ length l.bytes.items = omega (arith, w.inside, l.invariant.sized) in
    let now = c.replace.ensures ∙ ap (λ (y : ℕ × Ty). with_range_replaced l.bytes.items y.0 piece) c.index-fields-i.is ∙ ap (with_range_replaced l.bytes.items (get_or fields l.i f).0) w.is in
    record {
      ok = w.ok;
      shape = w.shape;
      sized = ap length c.replace.ensures ∙ length-with_range_replaced l.bytes.items f.0 piece inside ∙ l.invariant.sized;
      all = l.invariant.all
          ∙ fields_written fields values l.bytes.items l.i f v (omega arith) (omega arith)
          ∙ ap (λ (b : Bytes). write_fields (drop (l.i + 1) fields) (drop (l.i + 1) values) b) (sym now);
    }

pub variant_bytes-append-requires : goal.variant_bytes-append-requires
variant_bytes-append-requires t c =
    let l = c.loop-variant in
    let w = c.variant-item.result in
    let vs = c.args.variants.now in
    let n = next_variant c.args.size vs l.variant-index w (omega arith) l.invariant.ok in
    let ok : is_ok w.ty ≡ true = ap (λ (v : Variant). is_ok v.ty) c.variant-item.is ∙ n.ok in
    let falls : weight_of w.ty < variants_weight vs = subst (λ (v : Variant). weight_of v.ty < variants_weight vs) (sym c.variant-item.is) (weight_variant vs l.variant-index w (omega arith)) in
    let same : same_num (get_or vs l.variant-index w).number c.args.number ≡ true = ap (λ (v : Variant). same_num v.number c.args.number) (sym c.variant-item.is) ∙ sym (c.eq.ensures ∙ equal_is w.number c.args.number) ∙ c.if-eq.true in
    let s : has_shape w.ty c.args.value.now ≡ true =
    ap (λ (v : Variant). has_shape v.ty c.args.value.now) c.variant-item.is
    ∙ sym (variant_shaped_here vs l.variant-index w c.args.number c.args.value.now (omega arith) same) ∙ l.invariant.shape in
    (omega (arith, c.decreases), (ok, s))

pub variant_bytes-prove-unreachable-requires : goal.variant_bytes-prove-unreachable-requires
variant_bytes-prove-unreachable-requires t c =
    let l = c.loop-variant in
    let w = c.variant-item.result in
    let vs = c.args.variants.now in
    let value = c.args.value.now in
    let n = next_variant c.args.size vs l.variant-index w (omega arith) l.invariant.ok in
    let ok : is_ok w.ty ≡ true = ap (λ (v : Variant). is_ok v.ty) c.variant-item.is ∙ n.ok in
    let sized : size_of w.ty ≡ c.args.size = ap (λ (v : Variant). size_of v.ty) c.variant-item.is ∙ n.sized in
    let same : same_num (get_or vs l.variant-index w).number c.args.number ≡ true = ap (λ (v : Variant). same_num v.number c.args.number) (sym c.variant-item.is) ∙ sym (c.eq.ensures ∙ equal_is w.number c.args.number) ∙ c.if-eq.true in
    let shape : has_shape w.ty value ≡ true =
    ap (λ (v : Variant). has_shape v.ty value) c.variant-item.is
    ∙ sym (variant_shaped_here vs l.variant-index w c.args.number value (omega arith) same) ∙ l.invariant.shape in
    let is = c.in_ok-append.ensures.ok ∙ ap (λ (b : Bytes). b ++ encoding_of w.ty value) c.new-bytes.ensures.items in
    c.if-prove.true (c.len.ensures ∙ c.append.new.out.ok.0 ∙ ap length is ∙ length-encoding_of w.ty (ok_of w.ty ok) value shape ∙ sized)
