use Rattle.mr_clocks.proofs.Common.{◌≡◌, ◌-◌, ◌∙◌, ap, arith, slice_index, thread_at, Link, step_of}
use Rattle.mr_clocks.proofs.WakerLaws.{unwoken_by}
use Rattle.mr_clocks.proofs.wakers.is_woken.Goals as goal

pub link_before-i-requires-clause-low : goal.link_before-i-requires-clause-low
link_before-i-requires-clause-low c =
    let is = c.head-at.ensures ∙ ap (slice_index c.args.wakers.now.heads.items) c.thread_at.ensures in
    let low = c.requires.wakers.low (thread_at c.args.run.now c.args.j) in
    omega (arith, is, low)

pub returns-then-at-eq0 : goal.returns-then-at-eq0
returns-then-at-eq0 c = λ _.
    let heads = c.args.wakers.now.heads.items in
    unwoken_by c.args.run.now c.args.j c.args.next c.head-at.result heads c.args.wakers.now.links.items c.requires.wakers c.requires.next
    (c.head-at.ensures ∙ ap (slice_index heads) c.thread_at.ensures) (λ b e. absurd (omega (arith, e, c.if-at-eq0.true)))

pub returns-then-i-next : goal.returns-then-i-next
returns-then-i-next c = λ _.
    let heads = c.args.wakers.now.heads.items in
    let links = c.args.wakers.now.links.items in
    unwoken_by c.args.run.now c.args.j c.args.next c.head-at.result heads links c.requires.wakers c.requires.next
    (c.head-at.ensures ∙ ap (slice_index heads) c.thread_at.ensures)
    (λ b e. let same : b ≡ c.head-at.result - 1 = omega (arith, e) in let is = ap (step_of links) same in let step = ap (λ (l : Link). l.step) c.link_before-i.ensures in omega (arith, is, step, c.if-i-next.true))
