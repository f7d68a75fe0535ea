use Rattle.mr_layout.proofs.Common.{◌≡◌, ℕ, ◌≤◌, Bool, true, false, List, Option, Some, None, length, refl, sym, ap, subst, ◌∙◌, arith, nat_lt, IfSome, is_some, IfOk-weaker, Tag, Ty, Variant, size_of, is_in_chunk, is_used, is_used_field, is_used_in, Marks, is_first, is_used_row, are_tags_inside, is_some_tag_mark}
use Rattle.std.proofs.Common.{ap₂}
use Rattle.mr_ast.specs.declared.types.Ty.TheVariants as ty
use Rattle.mr_layout.proofs.ArrayRows.{used_rows}
use Rattle.mr_layout.proofs.UsedLaws.{used_int, used_bool, used_raw, used_fn_ptr, used_ref, used_tuple, used_array, used_union, used_enum}
use Rattle.mr_layout.proofs.TableLaws.{marks_alike, marks_then, marks_nowhere, marks_long, with_tags, tags_seen, variant_marks}
use Rattle.mr_layout.proofs.UsedInside.{told_once, told_then}
use Rattle.mr_layout.proofs.ok.+broken.Goals as goal

pub broken-returns-in-Int-clause-marks : goal.broken-returns-in-Int-clause-marks
broken-returns-in-Int-clause-marks t c = λ _.
    marks_alike (is_first c.int_bytes.result) (is_used c.args.t.now) c.args.start c.args.table.now c.scalar.new.table
    (λ at. ap (nat_lt at) c.int_bytes.ensures ∙ sym (ap (λ (u : Ty). is_used u at) c.in-Int.is ∙ used_int _ at)) c.scalar.ensures.marks

pub broken-returns-in-Bool-clause-marks : goal.broken-returns-in-Bool-clause-marks
broken-returns-in-Bool-clause-marks t c = λ _.
    marks_alike (is_first 1) (is_used c.args.t.now) c.args.start c.args.table.now c.scalar-in-Bool.new.table
    (λ at. sym (ap (λ (u : Ty). is_used u at) c.in-Bool.is ∙ used_bool at)) c.scalar-in-Bool.ensures.marks

pub broken-returns-in-Raw-clause-marks : goal.broken-returns-in-Raw-clause-marks
broken-returns-in-Raw-clause-marks t c = λ _.
    marks_alike (is_first 8) (is_used c.args.t.now) c.args.start c.args.table.now c.scalar-in-Raw.new.table
    (λ at. sym (ap (λ (u : Ty). is_used u at) c.in-Raw.is ∙ used_raw at)) c.scalar-in-Raw.ensures.marks

pub broken-returns-in-FnPtr-clause-marks : goal.broken-returns-in-FnPtr-clause-marks
broken-returns-in-FnPtr-clause-marks t c = λ _.
    marks_alike (is_first 8) (is_used c.args.t.now) c.args.start c.args.table.now c.scalar-in-FnPtr.new.table
    (λ at. sym (ap (λ (u : Ty). is_used u at) c.in-FnPtr.is ∙ used_fn_ptr at)) c.scalar-in-FnPtr.ensures.marks

pub broken-returns-in-Ref-clause-marks : goal.broken-returns-in-Ref-clause-marks
broken-returns-in-Ref-clause-marks t c =
    IfOk-weaker c.unless.result _ _
    (λ b h e.
    marks_alike (is_first 8) (is_used c.args.t.now) c.args.start c.args.table.now c.scalar-in-Ref.new.table
    (λ at. sym (ap (λ (u : Ty). is_used u at) c.in-Ref.is ∙ used_ref _ _ _ at)) c.scalar-in-Ref.ensures.marks)
    c.unless.ensures.told

pub broken-returns-in-Tuple-clause-marks : goal.broken-returns-in-Tuple-clause-marks
broken-returns-in-Tuple-clause-marks t c =
    IfOk-weaker c.broken_tuple.result _ _
    (λ told h e.
    marks_alike (is_used (ty.Tuple c.in-Tuple.size c.in-Tuple.align c.as_slice.result.now)) (is_used c.args.t.now) c.args.start c.args.table.now c.broken_tuple.new.table
    (λ at. ap (λ (fields : List (ℕ × Ty)). is_used (ty.Tuple c.in-Tuple.size c.in-Tuple.align fields) at) c.as_slice.ensures
    ∙ sym (ap (λ (u : Ty). is_used u at) c.in-Tuple.is)) (h e))
    c.broken_tuple.ensures.marks

pub broken-returns-in-Union-clause-marks : goal.broken-returns-in-Union-clause-marks
broken-returns-in-Union-clause-marks t c =
    let here = c.in-Union in
    let same = ap₂ (ty.Union here.size here.align) c.as_slice-fields.ensures c.as_slice-chunks.ensures ∙ sym here.is in
    IfOk-weaker c.broken_union.result _ _
    (λ told h e.
    marks_alike (is_used (ty.Union here.size here.align c.as_slice-fields.result.now c.as_slice-chunks.result.now)) (is_used c.args.t.now) c.args.start c.args.table.now c.broken_union.new.table
    (λ at. ap (λ (u : Ty). is_used u at) same) (h e))
    c.broken_union.ensures.marks

pub broken_tuple-returns-clause-marks : goal.broken_tuple-returns-clause-marks
broken_tuple-returns-clause-marks t c =
    told_then c.unless.result c.tuple_rules-rule.result _ _ c.unless.ensures.rule c.unless.ensures.told
    (λ none e.
    marks_alike (is_used_field c.args.fields.now) (is_used (ty.Tuple c.args.size c.args.align c.args.fields.now)) c.args.start c.args.table.now c.first_broken_field.new.table
    (λ at. sym (used_tuple _ _ _ at))
    (subst (λ at. Marks (is_used_field c.args.fields.now) at c.args.table.now c.first_broken_field.new.table) (c.place_of.ensures none) (c.in_ok-told.ensures.marks e)))

pub broken-returns-in_ok-told-in-Array-clause-marks : goal.broken-returns-in_ok-told-in-Array-clause-marks
broken-returns-in_ok-told-in-Array-clause-marks t c =
    IfOk-weaker c.unless-in-Array.result _ _
    (λ b h e.
    marks_alike (is_used_row c.in-Array.count c.get.result.now) (is_used c.args.t.now) c.args.start c.args.table.now c.broken_elem.new.table
    (λ at. ap (λ (elem : Ty). is_used_row c.in-Array.count elem at) c.get.ensures ∙ sym (ap (λ (u : Ty). is_used u at) c.in-Array.is ∙ used_array _ _ at))
    (c.in_ok-told-in-Array.ensures.marks (sym h ∙ e)))
    c.unless-in-Array.ensures.told

pub broken_union-returns-clause-marks : goal.broken_union-returns-clause-marks
broken_union-returns-clause-marks t c =
    let past : length c.args.table.now ≤ 18446744073709551615 = omega arith in
    λ e.
    marks_then (λ at. false) (is_in_chunk c.args.chunks.now) (is_used (ty.Union c.args.size c.args.align c.args.fields.now c.args.chunks.now)) c.args.start c.args.table.now c.first_broken_field.new.table c.mark_chunks.new.table
    (λ at. used_union _ _ _ _ at)
    (marks_nowhere (is_used_field c.args.fields.now) (λ at. false) 18446744073709551615 c.args.start c.args.table.now c.first_broken_field.new.table past (λ at. refl)
    (c.in_ok-told.ensures.marks (sym c.in_ok-sure.ensures.told ∙ e)))
    c.mark_chunks.ensures

-- what is told of an enum, where it is known
known : (used : Option Bool) (P : Type 0) → IfSome used (λ b. P) → is_some used ≡ true → P
known None P h e = cc
known (Some b) P h e = h

pub broken-returns-in_ok-used-in-Enum-clause-marks : goal.broken-returns-in_ok-used-in-Enum-clause-marks
broken-returns-in_ok-used-in-Enum-clause-marks t c =
    IfOk-weaker c.unless-in-Enum.result _ _
    (λ b h e.
    marks_alike (is_used_in c.as_slice-variants.result.now) (is_used c.args.t.now) c.args.start c.args.table.now c.broken_variants.new.table
    (λ at. ap (λ (variants : List Variant). is_used_in variants at) c.as_slice-variants.ensures ∙ sym (ap (λ (u : Ty). is_used u at) c.in-Enum.is ∙ used_enum _ _ _ _ _ at))
    (known c.in_ok-used-in-Enum.used _ c.in_ok-used-in-Enum.ensures.marks (sym c.is_some.ensures ∙ sym h ∙ e)))
    c.unless-in-Enum.ensures.told

pub broken_elem-returns-in_ok-told-in-Some-clause-marks : goal.broken_elem-returns-in_ok-told-in-Some-clause-marks
broken_elem-returns-in_ok-told-in-Some-clause-marks t c =
    let array = c.in-Array.is ∙ sym (ap (λ (part : Ty). ty.Array c.in-Array.each part) c.get.ensures) in
    IfOk-weaker c.unless.result _ _
    (λ b h e.
    marks_alike (is_used_row c.in-Some.all c.get.result.now) (is_used_row c.args.count c.args.elem.now) c.args.start c.args.table.now c.broken_elem.new.table
    (λ at. ap (λ n. is_used_row n c.get.result.now at) c.in-Some.ensures.1 ∙ used_rows c.args.count c.in-Array.each c.get.result.now at ∙ sym (ap (λ (u : Ty). is_used_row c.args.count u at) array))
    (c.in_ok-told-in-Some.ensures.marks (sym h ∙ e)))
    c.unless.ensures.told

pub broken_row-returns-in-Once-clause-marks : goal.broken_row-returns-in-Once-clause-marks
broken_row-returns-in-Once-clause-marks t c =
    told_once c.broken-in-Once.result c.args.count c.args.start c.args.elem.now c.args.table.now c.broken-in-Once.new.table (c.in-Once.ensures (size_of c.args.elem.now) c.size.ensures)
    c.broken-in-Once.ensures.rule c.broken-in-Once.ensures.marks

pub broken_row-returns-in-Long-clause-marks : goal.broken_row-returns-in-Long-clause-marks
broken_row-returns-in-Long-clause-marks t c =
    let row = c.in-Long.ensures (size_of c.args.elem.now) c.size.ensures in
    IfOk-weaker c.broken-in-Long.result _ _
    (λ told h e. marks_long c.args.count c.args.start c.args.elem.now c.args.table.now c.broken-in-Long.new.table row.0 (omega (arith, row.1, c.left.ensures)) (h e))
    c.broken-in-Long.ensures.marks

pub broken_variant-returns-clause-marks : goal.broken_variant-returns-clause-marks
broken_variant-returns-clause-marks t c =
    variant_marks c.args.start c.args.variant.now c.args.table.now c.put_tags.new.table c.broken-2.new.table c.put_tags-2.new.table c.put_tags.ensures.long c.put_tags-2.ensures.long
    (λ k l. c.put_tags.ensures.values k l ∙ ap (λ (tags : List Tag). with_tags c.args.table.now c.args.start tags 0 k) c.as_slice-tags.ensures)
    (c.in_ok-told.ensures.marks c.if-not-told.false)
    (λ k l. c.put_tags-2.ensures.values k l ∙ ap (λ (tags : List Tag). with_tags c.broken-2.new.table c.args.start tags 1 k) c.as_slice-tags.ensures)

pub broken_variant-returns-clause-used : goal.broken_variant-returns-clause-used
broken_variant-returns-clause-used t c =
    let inside = sym c.are_tags_inside.ensures ∙ c.if-not-are_tags_inside.false in
    c.is_some_tag_mark-used.ensures
    ∙ ap (is_some_tag_mark c.broken-2.new.table c.args.start) c.as_slice-tags.ensures
    ∙ tags_seen c.args.start c.args.variant.now.tags c.args.variant.now.ty c.args.table.now c.put_tags.new.table c.broken-2.new.table c.put_tags.ensures.long
    (ap (are_tags_inside c.args.start (length c.args.table.now)) (sym c.as_slice-tags.ensures) ∙ inside)
    (λ k l. c.put_tags.ensures.values k l ∙ ap (λ (tags : List Tag). with_tags c.args.table.now c.args.start tags 0 k) c.as_slice-tags.ensures)
    (c.in_ok-told.ensures.marks c.if-not-told.false)
