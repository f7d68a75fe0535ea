use Rattle.mr_eval.proofs.Common.{drop, get_or, refl, sym, ap, ap₂, subst, ◌∙◌, arith, ◌≡◌, Some, ◌+◌, true, Went, surround_of, seen, each_valued, valued, SoundPlace, SoundValue, ty_of, result_type, type_of_place, Place, Value, err_from_is_err_and, Val}
use Rattle.std.specs.Option.{is_some}
use Rattle.mr_eval.specs.declared.valuing.Valued.{Valued}
use Rattle.mr_ast.specs.declared.expr.Place.TheVariants as place
use Rattle.mr_ast.specs.declared.expr.Value.TheVariants as value
use Rattle.mr_eval.proofs.EvalRuns.{fn_there}
use Rattle.mr_eval.proofs.ExtendsLaws.{extends_then}
use Rattle.mr_eval.proofs.RowRuns.{behind_row, row_end, row_next, row_stop}
use Rattle.mr_eval.proofs.ExprWeights.{place_weight, row_weight, value_weight, weight_addr_of, weight_binary, weight_cast, weight_deref, weight_disc, weight_field, weight_in_row, weight_index, weight_load, weight_transmute, weight_tuple, weight_unary, weight_union, weight_variant, weight_variant_place}
use Rattle.mr_eval.proofs.SoundParts.{int_fits, place_ok, result_given, shape_given, sound_addr_of, sound_array, sound_at, sound_behind, sound_cast, sound_deref, sound_disc, sound_field, sound_index, sound_left, sound_load, sound_right, sound_transmute, sound_tuple, sound_unary, sound_union, sound_variant, sound_variant_place, transmute_types, union_content, value_ok, variant_there}
use Rattle.mr_eval.proofs.GivesLaws.{beside_first}
use Rattle.mr_eval.proofs.evaluating.+evaluated.Goals as goal

pub placed-pointed_place-requires : goal.placed-pointed_place-requires
placed-pointed_place-requires t c =
    let is : place_weight c.args.place.now ≡ _ = ap place_weight c.in-Deref.is ∙ weight_deref c.in-Deref.pointer c.in-Deref.ty in
    let same = c.get.ensures in
    let w : value_weight c.get.result.now ≡ value_weight c.in-Deref.pointer = ap value_weight same in
    (omega (arith, c.decreases), subst (SoundPlace (surround_of c.args.here.now)) (c.in-Deref.is ∙ sym (ap (λ (v : Value). place.Deref v c.in-Deref.ty) same)) c.requires)

pub pointed_place-valued-requires : goal.pointed_place-valued-requires
pointed_place-valued-requires t c =
    (omega (arith, c.decreases), sound_deref (surround_of c.args.here.now) _ c.args.pointer.now c.args.ty.now refl c.requires)

pub placed-field_place-requires : goal.placed-field_place-requires
placed-field_place-requires t c =
    let is : place_weight c.args.place.now ≡ _ = ap place_weight c.in-Field.is ∙ weight_field c.in-Field.whole c.in-Field.number in
    let same = c.get-in-Field.ensures in
    let w : place_weight c.get-in-Field.result.now ≡ place_weight c.in-Field.whole = ap place_weight same in
    (omega (arith, c.decreases), subst (SoundPlace (surround_of c.args.here.now)) (c.in-Field.is ∙ sym (ap (λ (p : Place). place.Field p c.in-Field.number) same)) c.requires)

pub field_place-placed-requires : goal.field_place-placed-requires
field_place-placed-requires t c =
    (omega (arith, c.decreases), sound_field (surround_of c.args.here.now) _ c.args.whole.now c.args.number refl c.requires)

pub placed-indexed_place-requires : goal.placed-indexed_place-requires
placed-indexed_place-requires t c =
    let is : place_weight c.args.place.now ≡ _ = ap place_weight c.in-Index.is ∙ weight_index c.in-Index.array c.in-Index.index in
    let array = c.get-in-Index.ensures in
    let index = c.get-in-Index-2.ensures in
    let w : place_weight c.get-in-Index.result.now ≡ place_weight c.in-Index.array = ap place_weight array in
    let v : value_weight c.get-in-Index-2.result.now ≡ value_weight c.in-Index.index = ap value_weight index in
    (omega (arith, c.decreases), subst (SoundPlace (surround_of c.args.here.now)) (c.in-Index.is ∙ sym (ap₂ place.Index array index)) c.requires)

pub indexed_place-placed-requires : goal.indexed_place-placed-requires
indexed_place-placed-requires t c =
    (omega (arith, c.decreases), sound_array (surround_of c.args.here.now) _ c.args.array.now c.args.index.now refl c.requires)

pub indexed_place-valued-requires : goal.indexed_place-valued-requires
indexed_place-valued-requires t c =
    (omega (arith, c.decreases), sound_index (surround_of c.args.here.now) _ c.args.array.now c.args.index.now refl c.requires)

pub indexed_place-element_by-requires : goal.indexed_place-element_by-requires
indexed_place-element_by-requires t c =
    let s = surround_of c.args.here.now in
    place_ok s c.args.array.now _ (sound_array s _ c.args.array.now c.args.index.now refl c.requires) c.in_ok-p.ensures.ty

pub placed-variant_place-requires : goal.placed-variant_place-requires
placed-variant_place-requires t c =
    let is : place_weight c.args.place.now ≡ _ = ap place_weight c.in-Variant.is ∙ weight_variant_place c.in-Variant.whole c.in-Variant.number in
    let same = c.get-in-Variant.ensures in
    let w : place_weight c.get-in-Variant.result.now ≡ place_weight c.in-Variant.whole = ap place_weight same in
    (omega (arith, c.decreases), subst (SoundPlace (surround_of c.args.here.now)) (c.in-Variant.is ∙ sym (ap (λ (p : Place). place.Variant p c.in-Variant.number) same)) c.requires)

pub variant_place-placed-requires : goal.variant_place-placed-requires
variant_place-placed-requires t c =
    (omega (arith, c.decreases), sound_variant_place (surround_of c.args.here.now) _ c.args.whole.now c.args.number refl c.requires)

pub variant_place-variant-requires : goal.variant_place-variant-requires
variant_place-variant-requires t c =
    variant_there (surround_of c.args.here.now) _ c.args.whole.now c.args.number _ refl c.requires c.in_ok-p.ensures.ty

pub valued-load_expression-requires : goal.valued-load_expression-requires
valued-load_expression-requires t c =
    let is : value_weight c.args.value.now ≡ _ = ap value_weight c.in-Load.is ∙ weight_load c.in-Load.place in
    (omega (arith, c.decreases), subst (SoundValue (surround_of c.args.here.now)) c.in-Load.is c.requires)

pub load_expression-placed-requires : goal.load_expression-placed-requires
load_expression-placed-requires t c =
    (omega (arith, c.decreases), sound_load (surround_of c.args.here.now) _ c.args.place.now refl c.requires)

pub load_expression-loaded_value-requires : goal.load_expression-loaded_value-requires
load_expression-loaded_value-requires t c =
    let s = surround_of c.args.here.now in
    place_ok s c.args.place.now _ (sound_load s _ c.args.place.now refl c.requires) c.in_ok-p.ensures.ty

pub valued-bits_of_number-requires : goal.valued-bits_of_number-requires
valued-bits_of_number-requires t c =
    int_fits (surround_of c.args.here.now) _ c.in-Int.int c.in-Int.number c.in-Int.is c.requires

pub valued-disc_expression-requires : goal.valued-disc_expression-requires
valued-disc_expression-requires t c =
    let is : value_weight c.args.value.now ≡ _ = ap value_weight c.in-Disc.is ∙ weight_disc c.in-Disc.place in
    (omega (arith, c.decreases), subst (SoundValue (surround_of c.args.here.now)) c.in-Disc.is c.requires)

pub disc_expression-placed-requires : goal.disc_expression-placed-requires
disc_expression-placed-requires t c =
    (omega (arith, c.decreases), sound_disc (surround_of c.args.here.now) _ c.args.place.now refl c.requires)

pub disc_expression-discriminant-requires : goal.disc_expression-discriminant-requires
disc_expression-discriminant-requires t c =
    let s = surround_of c.args.here.now in
    place_ok s c.args.place.now _ (sound_disc s _ c.args.place.now refl c.requires) c.in_ok-p.ensures.ty

pub valued-address_expression-requires : goal.valued-address_expression-requires
valued-address_expression-requires t c =
    let is : value_weight c.args.value.now ≡ _ = ap value_weight c.in-AddrOf.is ∙ weight_addr_of c.in-AddrOf.ty c.in-AddrOf.place in
    (omega (arith, c.decreases), subst (SoundValue (surround_of c.args.here.now)) c.in-AddrOf.is c.requires)

pub address_expression-placed-requires : goal.address_expression-placed-requires
address_expression-placed-requires t c =
    (omega (arith, c.decreases), sound_addr_of (surround_of c.args.here.now) _ c.args.ty.now c.args.place.now refl c.requires)

pub valued-cast_expression-requires : goal.valued-cast_expression-requires
valued-cast_expression-requires t c =
    let is : value_weight c.args.value.now ≡ _ = ap value_weight c.in-Cast.is ∙ weight_cast c.in-Cast.int c.in-Cast.operand in
    let same = c.get.ensures in
    let w : value_weight c.get.result.now ≡ value_weight c.in-Cast.operand = ap value_weight same in
    (omega (arith, c.decreases), subst (SoundValue (surround_of c.args.here.now)) (c.in-Cast.is ∙ sym (ap (value.Cast c.in-Cast.int) same)) c.requires)

pub cast_expression-valued-requires : goal.cast_expression-valued-requires
cast_expression-valued-requires t c =
    (omega (arith, c.decreases), sound_cast (surround_of c.args.here.now) _ c.args.int c.args.operand.now refl c.requires)

pub valued-unary_expression-requires : goal.valued-unary_expression-requires
valued-unary_expression-requires t c =
    let is : value_weight c.args.value.now ≡ _ = ap value_weight c.in-Unary.is ∙ weight_unary c.in-Unary.op c.in-Unary.operand in
    let same = c.get-in-Unary.ensures in
    let w : value_weight c.get-in-Unary.result.now ≡ value_weight c.in-Unary.operand = ap value_weight same in
    (omega (arith, c.decreases), subst (SoundValue (surround_of c.args.here.now)) (c.in-Unary.is ∙ sym (ap (value.Unary c.in-Unary.op) same)) c.requires)

pub unary_expression-valued-requires : goal.unary_expression-valued-requires
unary_expression-valued-requires t c =
    (omega (arith, c.decreases), sound_unary (surround_of c.args.here.now) _ c.args.op c.args.operand.now refl c.requires)

pub valued-variant_expression-requires : goal.valued-variant_expression-requires
valued-variant_expression-requires t c =
    let is : value_weight c.args.value.now ≡ _ = ap value_weight c.in-Variant.is ∙ weight_variant c.in-Variant.ty c.in-Variant.number c.in-Variant.content in
    let same = c.get-in-Variant.ensures in
    let w : value_weight c.get-in-Variant.result.now ≡ value_weight c.in-Variant.content = ap value_weight same in
    (omega (arith, c.decreases), subst (SoundValue (surround_of c.args.here.now)) (c.in-Variant.is ∙ sym (ap (value.Variant c.in-Variant.ty c.in-Variant.number) same)) c.requires)

pub variant_expression-valued-requires : goal.variant_expression-valued-requires
variant_expression-valued-requires t c =
    (omega (arith, c.decreases), sound_variant (surround_of c.args.here.now) _ c.args.ty.now c.args.number c.args.content.now refl c.requires)

pub valued-returns-in-Some-clause-given : goal.valued-returns-in-Some-clause-given
valued-returns-in-Some-clause-given t c =
    let m = c.args.here.now.memory.now in
    let s = surround_of c.args.here.now in
    let old = seen c.args.notes.now in
    ap (λ (v : Value). valued m s v old) c.in-Fn.is
    ∙ fn_there m s old c.in-Fn.f c.in-Some.p (sym c.named.ensures ∙ c.in-Some.is)
    ∙ ap (λ (v : Val). Went v old) (sym c.typed-in-Some.ensures.value)

pub each_valued-valued-requires : goal.each_valued-valued-requires
each_valued-valued-requires t c =
    let vs = c.args.values.now in
    let i = c.loop-value.value-index in
    let item = c.value-item.result in
    let w : value_weight item ≡ value_weight (get_or vs i item) = ap value_weight c.value-item.is in
    let less = weight_in_row vs i item c.loop-value-test.true in
    (omega (arith, c.decreases, less, w), subst (SoundValue (surround_of c.args.here.now)) (sym c.value-item.is) (sound_at (surround_of c.args.here.now) vs i item c.loop-value-test.true c.loop-value.invariant.sound))

pub each_valued-returns-in_err-v-clause-given : goal.each_valued-returns-in_err-v-clause-given
each_valued-returns-in_err-v-clause-given t c =
    let p = err_from_is_err_and c.from_residual.result c.from_residual.ensures.1 in
    rw (p.1, p.2) (row_stop c.args.here.now.memory.now (surround_of c.args.here.now) c.args.values.now c.loop-value.value-index c.loop-value.row (seen c.args.notes.now) (seen c.loop-value.notes)
    c.loop-value.invariant.all c.value-item.result c.in_err-v.field-0.0 (seen c.valued.new.notes) c.valued.new.notes.refused c.loop-value-test.true c.value-item.is c.in_err-v.ensures.given)

pub each_valued-loop-value-preserved : goal.each_valued-loop-value-preserved
each_valued-loop-value-preserved t c =
    let vs = c.args.values.now in
    let i = c.loop-value.value-index in
    let item = c.value-item.result in
    let all = row_next c.args.here.now.memory.now (surround_of c.args.here.now) vs i c.loop-value.row (seen c.args.notes.now) (seen c.loop-value.notes)
    c.loop-value.invariant.all item c.in_ok-v.v.value (seen c.valued.new.notes) c.loop-value-test.true c.value-item.is c.in_ok-v.ensures.given in
    record {
      sound = sound_behind (surround_of c.args.here.now) vs i item c.loop-value-test.true c.loop-value.invariant.sound;
      all = all ∙ ap (λ row. behind_row row (each_valued c.args.here.now.memory.now (surround_of c.args.here.now) (drop (i + 1) vs) (seen c.valued.new.notes))) (sym c.in_ok-push.ensures.ok);
      kept = extends_then (seen c.args.notes.now) (seen c.loop-value.notes) (seen c.valued.new.notes) c.loop-value.invariant.kept c.in_ok-v.ensures.kept;
    }

pub each_valued-returns-clause-given : goal.each_valued-returns-clause-given
each_valued-returns-clause-given t c =
    row_end c.args.here.now.memory.now (surround_of c.args.here.now) c.args.values.now c.loop-value.value-index c.loop-value.row (seen c.args.notes.now) (seen c.loop-value.notes)
    c.loop-value.invariant.all (omega (arith, c.loop-value-test.false))

pub valued-tuple_expression-requires : goal.valued-tuple_expression-requires
valued-tuple_expression-requires t c =
    let is : value_weight c.args.value.now ≡ _ = ap value_weight c.in-Tuple.is ∙ weight_tuple c.in-Tuple.ty c.in-Tuple.values in
    let same = c.as_slice.ensures in
    let w : row_weight c.as_slice.result.now ≡ row_weight c.in-Tuple.values = ap row_weight same in
    (omega (arith, c.decreases), subst (SoundValue (surround_of c.args.here.now)) (c.in-Tuple.is ∙ sym (ap (value.Tuple c.in-Tuple.ty) same)) c.requires)

pub tuple_expression-each_valued-requires : goal.tuple_expression-each_valued-requires
tuple_expression-each_valued-requires t c =
    (omega (arith, c.decreases), sound_tuple (surround_of c.args.here.now) _ c.args.ty.now c.args.values.now refl c.requires)

pub valued-union_expression-requires : goal.valued-union_expression-requires
valued-union_expression-requires t c =
    let is : value_weight c.args.value.now ≡ _ = ap value_weight c.in-Union.is ∙ weight_union c.in-Union.ty c.in-Union.number c.in-Union.content in
    let same = c.get-in-Union.ensures in
    let w : value_weight c.get-in-Union.result.now ≡ value_weight c.in-Union.content = ap value_weight same in
    (omega (arith, c.decreases), subst (SoundValue (surround_of c.args.here.now)) (c.in-Union.is ∙ sym (ap (value.Union c.in-Union.ty c.in-Union.number) same)) c.requires)

pub union_expression-valued-requires : goal.union_expression-valued-requires
union_expression-valued-requires t c =
    (omega (arith, c.decreases), sound_union (surround_of c.args.here.now) _ c.args.ty.now c.args.number c.args.content.now refl c.requires)

pub union_expression-union_value-requires-clause-ok : goal.union_expression-union_value-requires-clause-ok
union_expression-union_value-requires-clause-ok t c =
    (union_content (surround_of c.args.here.now) c.args.here.now.memory.now _ c.args.content.now c.args.ty.now _ c.args.number c.in_ok-v.v.value (seen c.args.notes.now) (seen c.valued.new.notes)
    refl c.requires c.in_ok-v.ensures.ty c.in_ok-v.ensures.given).0

pub union_expression-union_value-requires-clause-shape : goal.union_expression-union_value-requires-clause-shape
union_expression-union_value-requires-clause-shape t c =
    (union_content (surround_of c.args.here.now) c.args.here.now.memory.now _ c.args.content.now c.args.ty.now _ c.args.number c.in_ok-v.v.value (seen c.args.notes.now) (seen c.valued.new.notes)
    refl c.requires c.in_ok-v.ensures.ty c.in_ok-v.ensures.given).1

pub valued-transmute_expression-requires : goal.valued-transmute_expression-requires
valued-transmute_expression-requires t c =
    let is : value_weight c.args.value.now ≡ _ = ap value_weight c.in-Transmute.is ∙ weight_transmute c.in-Transmute.ty c.in-Transmute.operand in
    let same = c.get-in-Transmute.ensures in
    let w : value_weight c.get-in-Transmute.result.now ≡ value_weight c.in-Transmute.operand = ap value_weight same in
    (omega (arith, c.decreases), subst (SoundValue (surround_of c.args.here.now)) (c.in-Transmute.is ∙ sym (ap (value.Transmute c.in-Transmute.ty) same)) c.requires)

pub transmute_expression-valued-requires : goal.transmute_expression-valued-requires
transmute_expression-valued-requires t c =
    (omega (arith, c.decreases), sound_transmute (surround_of c.args.here.now) _ c.args.ty.now c.args.operand.now refl c.requires)

pub transmute_expression-transmuted_value-requires-clause-ok : goal.transmute_expression-transmuted_value-requires-clause-ok
transmute_expression-transmuted_value-requires-clause-ok t c =
    (transmute_types (surround_of c.args.here.now) _ c.args.operand.now c.args.ty.now _ refl c.requires c.in_ok-v.ensures.ty).0

pub transmute_expression-transmuted_value-requires-clause-from_ok : goal.transmute_expression-transmuted_value-requires-clause-from_ok
transmute_expression-transmuted_value-requires-clause-from_ok t c =
    let s = surround_of c.args.here.now in
    value_ok s c.args.operand.now _ (sound_transmute s _ c.args.ty.now c.args.operand.now refl c.requires) c.in_ok-v.ensures.ty

pub transmute_expression-transmuted_value-requires-clause-shape : goal.transmute_expression-transmuted_value-requires-clause-shape
transmute_expression-transmuted_value-requires-clause-shape t c =
    let s = surround_of c.args.here.now in
    shape_given s c.args.here.now.memory.now c.args.operand.now _ c.in_ok-v.v.value (seen c.args.notes.now) (seen c.valued.new.notes)
    (sound_transmute s _ c.args.ty.now c.args.operand.now refl c.requires) c.in_ok-v.ensures.ty c.in_ok-v.ensures.given

pub transmute_expression-transmuted_value-requires-clause-same : goal.transmute_expression-transmuted_value-requires-clause-same
transmute_expression-transmuted_value-requires-clause-same t c =
    (transmute_types (surround_of c.args.here.now) _ c.args.operand.now c.args.ty.now _ refl c.requires c.in_ok-v.ensures.ty).1

pub valued-binary_expression-requires : goal.valued-binary_expression-requires
valued-binary_expression-requires t c =
    let is : value_weight c.args.value.now ≡ _ = ap value_weight c.in-Binary.is ∙ weight_binary c.in-Binary.op c.in-Binary.left c.in-Binary.right in
    let left = c.get-in-Binary.ensures in
    let right = c.get-in-Binary-2.ensures in
    let w : value_weight c.get-in-Binary.result.now ≡ value_weight c.in-Binary.left = ap value_weight left in
    let v : value_weight c.get-in-Binary-2.result.now ≡ value_weight c.in-Binary.right = ap value_weight right in
    (omega (arith, c.decreases), subst (SoundValue (surround_of c.args.here.now)) (c.in-Binary.is ∙ sym (ap₂ (value.Binary c.in-Binary.op) left right)) c.requires)

pub binary_expression-valued-requires : goal.binary_expression-valued-requires
binary_expression-valued-requires t c =
    (omega (arith, c.decreases), sound_left (surround_of c.args.here.now) _ c.args.op c.args.left.now c.args.right.now refl c.requires)

pub binary_expression-valued-right-requires : goal.binary_expression-valued-right-requires
binary_expression-valued-right-requires t c =
    (omega (arith, c.decreases), sound_right (surround_of c.args.here.now) _ c.args.op c.args.left.now c.args.right.now refl c.requires)

pub binary_expression-binary_value-requires : goal.binary_expression-binary_value-requires
binary_expression-binary_value-requires t c =
    let there = result_given (surround_of c.args.here.now) _ c.args.op c.args.left.now c.args.right.now _ refl c.requires c.in_ok-a.ensures.ty in
    let same = beside_first c.in_ok-a.a c.valued-right.result c.in_ok-a-2.a c.in_ok-a-2.b c.in_ok-a-2.ensures in
    subst (λ (v : Valued). is_some (result_type c.args.op (ty_of v.ty)) ≡ true) (sym same) there
