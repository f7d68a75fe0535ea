use Rattle.mr_value.proofs.Common.{ℕ, subst, ◌≡◌, ◌+◌, ◌-◌, ◌*◌, ◌≤◌, ◌<◌, ◌++◌, true, List, drop, length, sym, ap, ◌∙◌, arith, option_map, Ty, Variant, weight_of, fields_weight, size_of, is_ok, are_ok, are_chunks_ok, are_variants_ok, ok_tuple, ok_array, ok_union, ok_enum, size_tuple, size_array, size_enum, bytes_of_pieces, Val, part, decoded, read_fields, elements_in}
use Rattle.mr_ast.proofs.WeightLaws.{weight_tuple, weight_field}
use Rattle.mr_value.proofs.DecodeSteps.{next_field, next_variant, fields_next, elements_next, element_inside, elements_end, after_some, after_none}
use Rattle.mr_value.proofs.Weights.{weight_array, weight_enum, weight_variant, variants_weight}
use Rattle.mr_value.proofs.decoding.+decode.Goals as goal

pub decode_at-decode_fields-requires : goal.decode_at-decode_fields-requires
decode_at-decode_fields-requires t c =
    let i = c.in-Tuple in
    let o : are_ok i.size c.as_slice.result.now ≡ true = ap (are_ok i.size) c.as_slice.ensures ∙ ok_tuple i.size i.align i.fields (sym (ap is_ok i.is) ∙ c.requires.ok) in
    let e : size_of c.args.t.now ≡ i.size = ap size_of i.is ∙ size_tuple i.size i.align i.fields in
    let s : c.args.at + i.size ≤ length (bytes_of_pieces c.args.v.now) = omega (arith, c.requires.inside) in
    let w : weight_of c.args.t.now ≡ 1 + fields_weight c.as_slice.result.now = ap weight_of i.is ∙ weight_tuple i.size i.align i.fields ∙ ap (λ fs. 1 + fields_weight fs) (sym c.as_slice.ensures) in
    (omega (arith, c.decreases), (o, s))

pub decode_at-decode_elements-requires : goal.decode_at-decode_elements-requires
decode_at-decode_elements-requires t c =
    let i = c.in-Array in
    let o : is_ok c.get.result.now ≡ true = ap is_ok c.get.ensures ∙ ok_array i.count i.elem (sym (ap is_ok i.is) ∙ c.requires.ok) in
    let e : size_of c.args.t.now ≡ i.count * size_of c.get.result.now = ap size_of i.is ∙ size_array i.count i.elem ∙ ap (λ x. i.count * size_of x) (sym c.get.ensures) in
    let s : c.args.at + i.count * size_of c.get.result.now ≤ length (bytes_of_pieces c.args.v.now) = subst (λ n. c.args.at + n ≤ length (bytes_of_pieces c.args.v.now)) e c.requires.inside in
    let w : weight_of c.args.t.now ≡ 1 + weight_of c.get.result.now = ap weight_of i.is ∙ weight_array i.count i.elem ∙ ap (λ x. 1 + weight_of x) (sym c.get.ensures) in
    (omega (arith, c.decreases), (o, s))

pub decode_at-decode_chunks-requires-clause-ok : goal.decode_at-decode_chunks-requires-clause-ok
decode_at-decode_chunks-requires-clause-ok t c =
    let i = c.in-Union in
    ap (are_chunks_ok i.size) c.as_slice-in-Union.ensures ∙ ok_union i.size i.align i.fields i.chunks (sym (ap is_ok i.is) ∙ c.requires.ok)

pub decode_at-walk_at-requires-clause-ok : goal.decode_at-walk_at-requires-clause-ok
decode_at-walk_at-requires-clause-ok t c =
    let i = c.in-Enum in
    (i.variants, (ok_enum i.size i.align i.disc i.variants i.tree (sym (ap is_ok i.is) ∙ c.requires.ok)).1)

pub decode_at-decode_variant-requires : goal.decode_at-decode_variant-requires
decode_at-decode_variant-requires t c =
    let i = c.in-Enum in
    let same = c.as_slice-in-Some-walk_at.ensures in
    let vs = c.as_slice-in-Some-walk_at.result.now in
    let o : are_variants_ok i.size vs ≡ true = ap (are_variants_ok i.size) same ∙ (ok_enum i.size i.align i.disc i.variants i.tree (sym (ap is_ok i.is) ∙ c.requires.ok)).0 in
    let e : size_of c.args.t.now ≡ i.size = ap size_of i.is ∙ size_enum i.size i.align i.disc i.variants i.tree in
    let s : c.args.at + i.size ≤ length (bytes_of_pieces c.args.v.now) = omega (arith, c.requires.inside) in
    let w : weight_of c.args.t.now ≡ 1 + variants_weight vs = ap weight_of i.is ∙ weight_enum i.size i.align i.disc i.variants i.tree ∙ ap (λ x. 1 + variants_weight x) (sym same) in
    (omega (arith, c.decreases), (o, s))

pub decode_fields-decode_at-requires : goal.decode_fields-decode_at-requires
decode_fields-decode_at-requires t c =
    let r = c.field-item.result in
    let n = next_field c.args.size c.args.fields.now c.loop-field.field-index r (omega arith) c.loop-field.invariant.ok in
    let same = c.field-item.is in
    let ok : is_ok r.1 ≡ true = ap (λ (f : ℕ × Ty). is_ok f.1) same ∙ n.ok in
    let here : r.0 + size_of r.1 ≤ c.args.size = subst (λ (f : ℕ × Ty). f.0 + size_of f.1 ≤ c.args.size) (sym same) n.inside in
    let inside : c.args.at + r.0 + size_of r.1 ≤ length (bytes_of_pieces c.args.v.now) = omega arith in
    let falls : weight_of r.1 < fields_weight c.args.fields.now = subst (λ (f : ℕ × Ty). weight_of f.1 < fields_weight c.args.fields.now) (sym same) (weight_field c.args.fields.now c.loop-field.field-index r (omega arith)) in
    (omega (arith, c.decreases), (ok, inside))

pub decode_fields-returns-in-None : goal.decode_fields-returns-in-None
decode_fields-returns-in-None t c =
    let r = c.field-item.result in
    let l = c.loop-field in
    let b = bytes_of_pieces c.args.v.now in
    let n = next_field c.args.size c.args.fields.now l.field-index r (omega arith) l.invariant.ok in
    let read = sym c.in-None.is ∙ c.in_ok-value.ensures ∙ ap (λ (f : ℕ × Ty). decoded f.1 (part (c.args.at + f.0) (size_of f.1) b)) c.field-item.is in
    sym
    (l.invariant.all
    ∙ fields_next b c.args.at c.args.size c.args.fields.now l.field-index r l.values (omega arith) n.inside
    ∙ after_none l.values _ (read_fields (drop (l.field-index + 1) c.args.fields.now) (part c.args.at c.args.size b)) read)

pub decode_fields-loop-field-preserved : goal.decode_fields-loop-field-preserved
decode_fields-loop-field-preserved t c =
    let r = c.field-item.result in
    let l = c.loop-field in
    let b = bytes_of_pieces c.args.v.now in
    let n = next_field c.args.size c.args.fields.now l.field-index r (omega arith) l.invariant.ok in
    let rest = read_fields (drop (l.field-index + 1) c.args.fields.now) (part c.args.at c.args.size b) in
    let read = sym c.in-Some.is ∙ c.in_ok-value.ensures ∙ ap (λ (f : ℕ × Ty). decoded f.1 (part (c.args.at + f.0) (size_of f.1) b)) c.field-item.is in
    record {
      ok = n.rest;
      all = l.invariant.all
          ∙ fields_next b c.args.at c.args.size c.args.fields.now l.field-index r l.values (omega arith) n.inside
          ∙ after_some l.values c.in-Some.value _ rest read
          ∙ ap (λ (xs : List Val). option_map (λ vs. xs ++ vs) rest) (sym c.in_ok-push-in-Some.ensures.ok);
    }

pub decode_elements-decode_at-requires : goal.decode_elements-decode_at-requires
decode_elements-decode_at-requires t c =
    let i = c.loop-i.i in
    let size = c.bytes_of-size.result in
    let same : size ≡ size_of c.args.elem.now = c.bytes_of-size.ensures in
    let here = element_inside i c.args.count (size_of c.args.elem.now) (omega arith) in
    let at : i * size ≡ i * size_of c.args.elem.now = ap (λ n. i * n) same in
    (omega (arith, c.decreases), (c.requires.ok, omega arith))

pub decode_elements-returns-in-None : goal.decode_elements-returns-in-None
decode_elements-returns-in-None t c =
    let l = c.loop-i in
    let b = bytes_of_pieces c.args.v.now in
    let elem = c.args.elem.now in
    let size = size_of elem in
    let read = sym c.in-None.is ∙ c.in_ok-value.ensures ∙ ap (λ n. decoded elem (part (c.args.at + l.i * n) size b)) c.bytes_of-size.ensures in
    sym
    (l.invariant.all
    ∙ elements_next b c.args.at c.args.count size (decoded elem) l.i l.values (omega arith) (element_inside l.i c.args.count size (omega arith))
    ∙ after_none l.values _ (elements_in (c.args.count - (l.i + 1)) size (decoded elem) (drop ((l.i + 1) * size) (part c.args.at (c.args.count * size) b))) read)

pub decode_elements-loop-i-preserved : goal.decode_elements-loop-i-preserved
decode_elements-loop-i-preserved t c =
    let l = c.loop-i in
    let b = bytes_of_pieces c.args.v.now in
    let elem = c.args.elem.now in
    let size = size_of elem in
    let rest = elements_in (c.args.count - (l.i + 1)) size (decoded elem) (drop ((l.i + 1) * size) (part c.args.at (c.args.count * size) b)) in
    let read = sym c.in-Some.is ∙ c.in_ok-value.ensures ∙ ap (λ n. decoded elem (part (c.args.at + l.i * n) size b)) c.bytes_of-size.ensures in
    record {
      all = l.invariant.all
          ∙ elements_next b c.args.at c.args.count size (decoded elem) l.i l.values (omega arith) (element_inside l.i c.args.count size (omega arith))
          ∙ after_some l.values c.in-Some.value _ rest read
          ∙ ap (λ (xs : List Val). option_map (λ vs. xs ++ vs) rest) (sym c.in_ok-push-in-Some.ensures.ok);
    }

pub decode_elements-returns : goal.decode_elements-returns
decode_elements-returns t c =
    let l = c.loop-i in
    let elem = c.args.elem.now in
    let size = size_of elem in
    sym
    (l.invariant.all
    ∙ elements_end c.args.count l.i size (decoded elem) (drop (l.i * size) (part c.args.at (c.args.count * size) (bytes_of_pieces c.args.v.now))) l.values c.loop-i-test.false)

pub decode_variant-decode_at-requires : goal.decode_variant-decode_at-requires
decode_variant-decode_at-requires t c =
    let r = c.variant-item.result in
    let l = c.loop-variant in
    let vs = c.args.variants.now in
    let n = next_variant c.args.size vs l.variant-index r (omega arith) l.invariant.ok in
    let ok : is_ok r.ty ≡ true = ap (λ (v : Variant). is_ok v.ty) c.variant-item.is ∙ n.ok in
    let sized : size_of r.ty ≡ c.args.size = ap (λ (v : Variant). size_of v.ty) c.variant-item.is ∙ n.sized in
    let falls : weight_of r.ty < variants_weight vs = subst (λ (v : Variant). weight_of v.ty < variants_weight vs) (sym c.variant-item.is) (weight_variant vs l.variant-index r (omega arith)) in
    (omega (arith, c.decreases), (ok, omega arith))
