use Rattle.mr_eval.proofs.Common.{◌≡◌, ◌++◌, Option, length, refl, ap, ◌∙◌, subst, decoded, encoding_of, Bytes, Val, ty_of}
use Rattle.std.specs.Prelude.{IfOk}
use Rattle.mr_eval.proofs.RecastLaws.{replaced_whole, transmute_sized}
use Rattle.mr_eval.proofs.recasting.recast.Goals as goal

-- src/recasting.rt:127:11
pub laid-requires-clause-sized : goal.laid-requires-clause-sized
laid-requires-clause-sized c =
    let bytes : c.encode_known.new.out.items ≡ encoding_of (ty_of c.args.from) c.args.v.now =
    c.in_ok-encode_known.ensures ∙ ap (λ (xs : Bytes). xs ++ encoding_of (ty_of c.args.from) c.args.v.now) c.new-piece.ensures.items in
    ap length c.as_slice-bytes.ensures.value ∙ transmute_sized (ty_of c.args.from) c.args.to.now c.args.v.now _ c.requires.from_ok c.requires.shape c.requires.same bytes

-- src/recasting.rt:109:1
pub returns : goal.returns
returns c =
    let new = encoding_of (ty_of c.args.from) c.args.v.now in
    let bytes : c.encode_known.new.out.items ≡ new = c.in_ok-encode_known.ensures ∙ ap (λ (xs : Bytes). xs ++ new) c.new-piece.ensures.items in
    let laid = replaced_whole c.as_slice-bytes.result.now (length c.as_slice-bytes.result.now) refl in
    subst (λ (xs : Bytes). IfOk c.laid.result (λ (o : Option Val). o ≡ decoded c.args.to.now xs))
    (laid ∙ c.as_slice-bytes.ensures.value ∙ bytes) c.laid.ensures
