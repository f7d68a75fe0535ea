use Rattle.mr_wf.proofs.Common.{◌≡◌, Ok, Err, map, sym, ap, subst, ◌∙◌, arith, err_from_is_err_and, Place, Value, ty_of, judged_values, GivesWhereTyped, surroundings_of}
use Rattle.std.proofs.lemmas.List.{map-append}
use Rattle.mr_ast.specs.declared.expr.Place.TheVariants as place
use Rattle.mr_wf.proofs.GivesLaws.{value_goes_on, value_stops, values_done, with_none}
use Rattle.mr_wf.proofs.PositionLaws.{given_judged, given_local, index_stops, part_stops, part_told}
use Rattle.mr_wf.proofs.judging.+judged.Goals as goal

pub judged_part-returns-in_err-judged_positions-in-Some : goal.judged_part-returns-in_err-judged_positions-in-Some
judged_part-returns-in_err-judged_positions-in-Some t c =
    let p = err_from_is_err_and c.from_residual.result c.from_residual.ensures.1 in
    rw (p.1, p.2) (part_stops (surroundings_of c.args.at) c.args.whole.now c.args.number c.in-Some.t.now c.in_err-judged_positions-in-Some.field-0.0
    c.in_err-judged_positions-in-Some.ensures c.in-Some.ensures)

pub judged_part-returns-in_ok-judged_positions-in-Some : goal.judged_part-returns-in_ok-judged_positions-in-Some
judged_part-returns-in_ok-judged_positions-in-Some t c =
    part_told (surroundings_of c.args.at) c.args.whole.now c.args.number c.in-Some.t.now c.in_ok-judged_positions-in-Some.ensures c.in-Some.ensures

pub judged_positions-returns-in_err-judged_positions-in-Index : goal.judged_positions-returns-in_err-judged_positions-in-Index
judged_positions-returns-in_err-judged_positions-in-Index t c =
    let at = surroundings_of c.args.at in
    let broken = c.in_err-judged_positions-in-Index.field-0.0 in
    let given : GivesWhereTyped at (Err broken) c.in-Index.array =
    subst (λ (q : Place). GivesWhereTyped at (Err broken) q) c.get-in-Index.ensures c.in_err-judged_positions-in-Index.ensures in
    let p = err_from_is_err_and c.from_residual-in_err-judged_positions-in-Index.result c.from_residual-in_err-judged_positions-in-Index.ensures.1 in
    rw (c.in-Index.is, p.1, p.2) (index_stops at c.in-Index.array c.in-Index.index broken given)

pub judged_positions-returns-in-Local : goal.judged_positions-returns-in-Local
judged_positions-returns-in-Local t c = rw c.in-Local.is (given_local (surroundings_of c.args.at) c.in-Local.field-0)

pub judged_positions-returns-in_ok-judged_target-in-Deref : goal.judged_positions-returns-in_ok-judged_target-in-Deref
judged_positions-returns-in_ok-judged_target-in-Deref t c =
    let at = surroundings_of c.args.at in
    let whole : place.Deref c.get.result.now c.in-Deref.ty ≡ c.args.place.now = ap (λ (v : Value). place.Deref v c.in-Deref.ty) c.get.ensures ∙ sym c.in-Deref.is in
    subst (λ (q : Place). GivesWhereTyped at (Ok tt) q) whole
    (given_judged at (place.Deref c.get.result.now c.in-Deref.ty) c.in_ok-judged_target-in-Deref.field-0.now c.in_ok-judged_target-in-Deref.ensures)

pub judged_values-loop-value-init : goal.judged_values-loop-value-init
judged_values-loop-value-init t c = rw c.new-types.ensures.items (with_none (judged_values (surroundings_of c.args.at) c.args.values.now))

pub judged_values-returns-in_err-t : goal.judged_values-returns-in_err-t
judged_values-returns-in_err-t t c =
    let at = surroundings_of c.args.at in
    let l = c.loop-value in
    let p = err_from_is_err_and c.from_residual.result c.from_residual.ensures.1 in
    rw (p.1, p.2) (value_stops at (map ty_of l.types.items) c.args.values.now l.value-index (judged_values at c.args.values.now) l.invariant
    c.value-item.result c.in_err-t.field-0.0 (omega arith) c.value-item.is c.in_err-t.ensures)

pub judged_values-loop-value-preserved : goal.judged_values-loop-value-preserved
judged_values-loop-value-preserved t c =
    let at = surroundings_of c.args.at in
    let l = c.loop-value in
    rw (c.in_ok-push.ensures.items, map-append) (value_goes_on at (map ty_of l.types.items) c.args.values.now l.value-index (judged_values at c.args.values.now) l.invariant
    c.value-item.result (ty_of c.in_ok-t.t) (omega arith) c.value-item.is c.in_ok-t.ensures)

pub judged_values-returns : goal.judged_values-returns
judged_values-returns t c =
    let at = surroundings_of c.args.at in
    let l = c.loop-value in
    values_done at (map ty_of l.types.items) c.args.values.now l.value-index (judged_values at c.args.values.now) l.invariant (omega arith)
