use Rattle.mr_mem.proofs.Common.{◌≡◌, sym, ap, ◌∙◌, subst, Option, fold, AllocId, IsLeast, IsOverlapped, Taken}
use Rattle.mr_mem.proofs.LeastLaws.{least_with}
use Rattle.mr_mem.proofs.SpanLaws.{least_found}
use Rattle.mr_mem.proofs.spans.least_shared.Goals as goal

pub returns : goal.returns
returns c =
    let m = c.args.by_start.now in
    let before = c.shared_before-least.result in
    let inside = c.range-span-items.result in
    let found : c.loop-span.least ≡ fold least_with before inside =
    ap (λ (es : Taken). fold least_with c.loop-span.least es) (sym c.in-None.ensures.steps.0)
    ∙ c.loop-span.invariant
    ∙ ap (λ (es : Taken). fold least_with before es) c.into_iter-span-iterator.ensures.into_iter_gives in
    subst (λ (o : Option AllocId). IsLeast (IsOverlapped m.entries c.args.addr c.args.size) o) (sym found)
    (least_found m c.args.addr c.args.size c.new.result.start c.new.result.end c.requires.filled c.new.ensures.start c.new.ensures.end c.requires.apart inside
    (c.range-span-items.ensures.in_range c.new.ensures.exhausted) (c.range-span-items.ensures.between c.new.ensures.exhausted) before c.shared_before-least.ensures)
