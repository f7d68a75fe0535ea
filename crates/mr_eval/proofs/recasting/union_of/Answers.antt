use Rattle.mr_eval.proofs.Common.{◌≡◌, ◌≤◌, ◌+◌, ◌++◌, length, sym, ap, ◌∙◌, subst, encoding_of, Bytes, with_range_replaced, blank}
use Rattle.mr_eval.proofs.RecastLaws.{union_made, union_means, union_part}
use Rattle.mr_eval.proofs.recasting.union_of.Goals as goal

-- src/recasting.rt:60:5
pub encode-requires-clause-ok : goal.encode-requires-clause-ok
encode-requires-clause-ok c =
    let u = c.in-Union in
    (union_part u.size u.align u.fields u.chunks c.args.number c.in-Some.field-0.now c.args.v.now c.args.t.now u.is (sym c.in-Some.ensures.value) c.requires.ok c.requires.shape).ok

-- src/recasting.rt:61:11
pub laid-requires-clause-inside : goal.laid-requires-clause-inside
laid-requires-clause-inside c =
    let u = c.in-Union in
    let part = union_part u.size u.align u.fields u.chunks c.args.number c.in-Some.field-0.now c.args.v.now c.args.t.now u.is (sym c.in-Some.ensures.value) c.requires.ok c.requires.shape in
    let bytes : c.as_slice.result.now ≡ encoding_of c.in-Some.field-0.now.1 c.args.v.now =
    c.as_slice.ensures.value ∙ c.in_ok-encode.ensures.ok ∙ ap (λ (xs : Bytes). xs ++ encoding_of c.in-Some.field-0.now.1 c.args.v.now) c.new-piece.ensures.items in
    subst (λ (xs : Bytes). c.in-Some.field-0.now.0 + length xs ≤ u.size) (sym bytes) part.inside

-- src/recasting.rt:63:17
pub unreachable-requires : goal.unreachable-requires
unreachable-requires c =
    let u = c.in-Union in
    union_means u.size u.align u.fields u.chunks c.args.number c.in-Some.field-0.now c.args.v.now c.args.t.now u.is (sym c.in-Some.ensures.value) _ (sym c.in_ok-union.ensures ∙ c.in-None.is)

-- src/recasting.rt:47:1
pub returns : goal.returns
returns c =
    let u = c.in-Union in
    let bytes : c.as_slice.result.now ≡ encoding_of c.in-Some.field-0.now.1 c.args.v.now =
    c.as_slice.ensures.value ∙ c.in_ok-encode.ensures.ok ∙ ap (λ (xs : Bytes). xs ++ encoding_of c.in-Some.field-0.now.1 c.args.v.now) c.new-piece.ensures.items in
    union_made u.size u.align u.fields u.chunks c.args.number c.in-Some.field-0.now c.args.v.now c.args.t.now u.is (sym c.in-Some.ensures.value) _ c.in-Some-2.union
    (ap (with_range_replaced (blank u.size) c.in-Some.field-0.now.0) bytes) (sym c.in_ok-union.ensures ∙ c.in-Some-2.is)
