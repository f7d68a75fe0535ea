use Rattle.mr_clocks.proofs.Common.{◌≡◌, ℕ, ◌<◌, ◌^◌, true, sym, ap, ◌∙◌, arith, Shelf, has_mark, mark_of, shelf_at, IsAsked, IsListed}
use Rattle.mr_clocks.proofs.MarkLaws.{shelf_read}
use Rattle.mr_clocks.proofs.SpanLaws.{reached, swept_more}
use Rattle.mr_clocks.proofs.index.sweep_shelf.Goals as goal

pub loop-i-init : goal.loop-i-init
loop-i-init c = record { kept = λ x t. t; all = λ z p lt. absurd (omega (arith, lt)) }

pub loop-i-preserved : goal.loop-i-preserved
loop-i-preserved c =
    let marks = c.args.index.now.marks.keys in
    let asked = IsAsked c.args.step.now c.args.rows.now in
    let old = c.loop-i.found.items in
    let new = c.sweep_span.new.found.items in
    record {
      kept = λ x t. c.in_ok-sweep_span.ensures.kept x (c.loop-i.invariant.kept x t);
      all = swept_more c.chosen-list.result.now c.index-shelf.result.now.width c.loop-i.i
          (λ p. (t x : ℕ) → t < 2 ^ 32 → x < 2 ^ 64 → has_mark marks (mark_of c.args.s p t x) ≡ true → asked x → IsListed old x)
          (λ p. (t x : ℕ) → t < 2 ^ 32 → x < 2 ^ 64 → has_mark marks (mark_of c.args.s p t x) ≡ true → asked x → IsListed new x)
          c.chosen-list.ensures.rising c.loop-i-test.true
          (λ p there t x narrow small has is. c.in_ok-sweep_span.ensures.kept x (there t x narrow small has is))
          c.in_ok-sweep_span.ensures.all c.loop-i.invariant.all;
    }

pub returns-clause-all : goal.returns-clause-all
returns-clause-all c = λ r t x con on narrow small has asked.
    let shelves = c.args.index.now.shelves.items in
    let shelf = c.index-shelf.result.now in
    let is : shelf ≡ shelf_at shelves c.args.s = shelf_read shelves c.args.s shelf c.requires.inside c.index-shelf.ensures in
    let wide = on.narrow in
    let width = ap (λ (q : Shelf). q.width) is in
    let k = reached c.args.step.now.accesses shelf.stores c.chosen-list.result.now r shelf.width c.chosen-list.ensures (omega (arith, wide, width)) on.small
    (λ none. on.stored (sym (ap (λ (q : Shelf). q.stores) is) ∙ none)) con in
    let within = k.1 in
    c.loop-i.invariant.all k.0 r.addr (omega (arith, within, c.loop-i-test.false)) k.2 t x narrow small has asked

pub returns-clause-kept : goal.returns-clause-kept
returns-clause-kept c = c.loop-i.invariant.kept
