use Rattle.mr_clocks.proofs.Common.{List, ◌-◌, ◌^◌, inr, refl, sym, ◌∙◌, subst, arith, mark_of, IsAsked, IsListed}
use Rattle.mr_clocks.specs.declared.index.Mark.{Mark}
use Rattle.mr_clocks.proofs.MarkLaws.{collected, low_mark, low_read, rows_of, wanted_all, wanted_more}
use Rattle.mr_clocks.proofs.index.collect.Goals as goal

pub range-mark-items-requires : goal.range-mark-items-requires
range-mark-items-requires c =
    let low = mark_of c.args.shelf c.args.low 0 0 in
    let high = mark_of c.args.shelf c.args.high (2 ^ 32 - 1) (2 ^ 64 - 1) in
    low_read c.new.result.start c.new.result.end low high c.new.ensures.start c.new.ensures.end (low_mark low high refl c.requires.order (omega arith) (omega arith))

pub loop-mark-init : goal.loop-mark-init
loop-mark-init c = record { kept = λ x t. t; wanted = λ x _ t. t }

pub loop-mark-preserved : goal.loop-mark-preserved
loop-mark-preserved c =
    let i = c.loop-mark.invariant in
    let kept = c.in_ok-add_asked.ensures.kept in
    record {
      kept = λ x t. kept x (i.kept x t);
      wanted = λ x asked t.
          wanted_more (IsAsked c.args.step.now c.args.rows.now) c.in-Some.mark.now c.next.new.self c.loop-mark.mark-iterator c.loop-mark.found.items c.add_asked.new.found.items
          c.in-Some.ensures.steps kept c.in_ok-add_asked.ensures.here x asked (i.wanted x asked t);
    }

pub returns-clause-all : goal.returns-clause-all
returns-clause-all c = λ p t x from to narrow small has asked.
    let marks = c.args.marks.now.keys in
    let first = c.new.result.start in
    let last = c.new.result.end in
    let here = collected marks c.args.shelf c.args.low c.args.high first last c.new.ensures.start c.new.ensures.end p t x from to narrow small has in
    let all = c.into_iter-mark-iterator.ensures.into_iter_gives ∙ c.range-mark-items.ensures.between c.new.ensures.exhausted in
    wanted_all c.loop-mark.mark-iterator c.loop-mark.found.items x c.in-None.ensures.steps.0
    (c.loop-mark.invariant.wanted x asked (inr (subst (λ (l : List Mark). IsListed (rows_of l) x) (sym all) here)))

pub returns-clause-kept : goal.returns-clause-kept
returns-clause-kept c = c.loop-mark.invariant.kept
