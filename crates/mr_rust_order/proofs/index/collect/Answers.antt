use Rattle.mr_rust_order.proofs.Common.{List, ◌∷◌, [], ◌-◌, ◌^◌, inr, refl, sym, ◌∙◌, subst, arith, Mark, IsListed, mark_of}
use Rattle.mr_rust_order.proofs.MarkLaws.{collected, listed_kept, low_mark, low_read, rows_of, wanted_all, wanted_more}
use Rattle.mr_rust_order.proofs.index.collect.Goals as goal

pub range-mark-items-requires : goal.range-mark-items-requires
range-mark-items-requires c =
    let low = mark_of c.args.shelf c.args.low 0 0 in
    let high = mark_of c.args.shelf c.args.high (2 ^ 32 - 1) (2 ^ 64 - 1) in
    low_read c.new.result.start c.new.result.end low high c.new.ensures.start c.new.ensures.end (low_mark low high refl c.requires (omega arith) (omega arith))

pub loop-mark-init : goal.loop-mark-init
loop-mark-init c = record { kept = λ x t. t; wanted = λ x t. t }

pub loop-mark-preserved : goal.loop-mark-preserved
loop-mark-preserved c =
    let i = c.loop-mark.invariant in
    let m = c.in-Some.mark.now in
    let old = c.loop-mark.found.items in
    let new = c.push.new.self.items in
    record {
      kept = λ x t. listed_kept old new (m.row ∷ []) x c.in_ok-push.ensures.items (i.kept x t);
      wanted = λ x t. wanted_more m c.next.new.self c.loop-mark.mark-iterator old new c.in-Some.ensures.steps c.in_ok-push.ensures.items x (i.wanted x t);
    }

pub returns-clause-all : goal.returns-clause-all
returns-clause-all c = λ p t x from to narrow small has.
    let marks = c.args.marks.now.keys in
    let first = c.new.result.start in
    let last = c.new.result.end in
    let here = collected marks c.args.shelf c.args.low c.args.high first last c.new.ensures.start c.new.ensures.end p t x from to narrow small has in
    let all = c.into_iter-mark-iterator.ensures.into_iter_gives ∙ c.range-mark-items.ensures.between c.new.ensures.exhausted in
    wanted_all c.loop-mark.mark-iterator c.loop-mark.found.items x c.in-None.ensures.steps.0
    (c.loop-mark.invariant.wanted x (inr (subst (λ (l : List Mark). IsListed (rows_of l) x) (sym all) here)))

pub returns-clause-kept : goal.returns-clause-kept
returns-clause-kept c = c.loop-mark.invariant.kept
