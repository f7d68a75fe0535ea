use Rattle.mr_hunt.proofs.Common.{◌<◌, ◌≡◌, ◌+◌, ◌-◌, ◌^◌, ◌∙◌, ap, arith, List, subst, sym, All, range_with_len, Row, ends_of, IsTable, joined, table_of}
use Rattle.mr_hunt.proofs.TableLaws.{few_counted, says, table_next}
use Rattle.mr_hunt.proofs.counting.table.Goals as goal

pub number_behind-number-requires : goal.number_behind-number-requires
number_behind-number-requires c = omega (arith, c.loop-i-test.true, c.how_many-i-end.ensures, c.ranges.to)

pub with_number-requires-clause-counts : goal.with_number-requires-clause-counts
with_number-requires-clause-counts c =
    let few : c.loop-i.i < 2 ^ 127 = omega (arith, c.loop-i-test.true, c.how_many-i-end.ensures, c.ranges.to) in
    subst (λ (rows : List Row). All (λ (r : Row). r.count < 2 ^ 127) rows)
    (sym (c.as_slice.ensures.value ∙ c.loop-i.invariant))
    (few_counted (ends_of c.args.p.now c.args.most) c.args.from c.loop-i.i few)

pub loop-i-preserved : goal.loop-i-preserved
loop-i-preserved c =
    table_next (ends_of c.args.p.now c.args.most) c.args.from c.loop-i.i c.number_behind-number.result
    c.as_slice.result.now c.in_ok-more.more.items c.number_behind-number.ensures
    (c.as_slice.ensures.value ∙ c.loop-i.invariant) c.in_ok-more.ensures

pub returns-clause-rows : goal.returns-clause-rows
returns-clause-rows c =
    let above = c.loop-i.auto.i-end in
    let over = c.loop-i-test.false in
    let all : c.loop-i.i ≡ c.args.to + 1 - c.args.from = omega (arith, above, over, c.how_many-i-end.ensures) in
    c.loop-i.invariant ∙ ap (λ k. table_of (ends_of c.args.p.now c.args.most) (range_with_len c.args.from k)) all

pub returns-clause-says : goal.returns-clause-says
returns-clause-says c =
    let above = c.loop-i.auto.i-end in
    let over = c.loop-i-test.false in
    let all : c.loop-i.i ≡ c.args.to + 1 - c.args.from = omega (arith, above, over, c.how_many-i-end.ensures) in
    let ends = ends_of c.args.p.now c.args.most in
    subst (λ (rows : List Row). IsTable ends c.args.from c.args.to rows)
    (sym (c.loop-i.invariant ∙ ap (λ k. table_of ends (range_with_len c.args.from k)) all))
    (says ends c.args.from c.args.to)
