use Rattle.mr_clocks.proofs.Common.{ℕ, ◌≡◌, ◌≢◌, ◌+◌, ◌-◌, ◌∙◌, ap, refl, slice_index, subst, sym, arith, thread_at, Sync, Link, IsUnder, link_at, step_of}
use Rattle.mr_clocks.proofs.WakerLaws.{ArePassed, passed_more, passed_start, syncs_seen}
use Rattle.mr_clocks.proofs.wakers.follow_wakers.Goals as goal

pub loop-at-init : goal.loop-at-init
loop-at-init c =
    let heads = c.args.wakers.now.heads.items in
    let is = c.head-at.ensures ∙ ap (slice_index heads) c.thread_at.ensures in
    record {
      low = let low = c.requires.wakers.low (thread_at c.args.run.now c.args.j) in omega (arith, is, low);
      part = c.requires.part;
      passed = passed_start c.args.run.now c.args.j (slice_index heads (thread_at c.args.run.now c.args.j)) c.head-at.result c.args.wakers.now.links.items c.args.clock.now is;
      same = λ _. refl;
    }

pub follow_waker-requires-clause-order : goal.follow_waker-requires-clause-order
follow_waker-requires-clause-order c =
    let step = ap (λ (l : Link). l.step) c.link_before-link.ensures in
    let low = c.requires.wakers.within (c.loop-at.at - 1) (omega (arith, c.loop-at.invariant.low, c.loop-at-test.true)) in
    omega (arith, step, low)

pub loop-at-preserved : goal.loop-at-preserved
loop-at-preserved c =
    let i = c.loop-at.invariant in
    let w = c.in_ok-followed.ensures in
    let links = c.args.wakers.now.links.items in
    let m : ℕ = c.loop-at.at - 1 in
    let is : c.loop-at.at ≡ m + 1 = omega (arith, c.loop-at-test.true) in
    let link : c.link_before-link.result ≡ link_at links m = c.link_before-link.ensures in
    let before = ap (λ (l : Link). l.before) link in
    let run = c.args.run.now in
    let j = c.args.j in
    let head = slice_index c.args.wakers.now.heads.items (thread_at run j) in
    let new = c.follow_waker.new.clock in
    let under : Sync run (step_of links m) j → thread_at run (step_of links m) ≢ thread_at run j → IsUnder run new (step_of links m) =
    subst (λ (l : Link). Sync run l.step j → thread_at run l.step ≢ thread_at run j → IsUnder run new l.step) link w.under in
    record {
      low = let less = c.requires.wakers.chained.low m (omega (arith, is, i.low)) in omega (arith, less, before, is, i.low);
      part = w.part;
      passed = subst (λ (q : ℕ). ArePassed run j links head q new) (sym before) (passed_more run j head c.loop-at.at m links c.loop-at.clock new is w.kept under i.passed);
      same = λ none. w.same (c.is_either-changed.ensures.other none) ∙ i.same (c.is_either-changed.ensures.one none);
    }

pub loop-at-smaller : goal.loop-at-smaller
loop-at-smaller c =
    let i = c.loop-at.invariant in
    let m : ℕ = c.loop-at.at - 1 in
    let less = c.requires.wakers.chained.low m (omega (arith, c.loop-at-test.true, i.low)) in
    let before = ap (λ (l : Link). l.before) c.link_before-link.ensures in
    omega (arith, less, before, c.loop-at-test.true)

pub returns-then-i-next-clause-syncs : goal.returns-then-i-next-clause-syncs
returns-then-i-next-clause-syncs c =
    let i = c.loop-at.invariant in
    let links = c.args.wakers.now.links.items in
    syncs_seen c.args.run.now c.args.j c.args.next c.loop-at.at c.args.wakers.now.heads.items links c.loop-at.clock c.requires.wakers c.requires.next i.low
    (λ b e. let same : b ≡ c.loop-at.at - 1 = omega (arith, e) in let is = ap (step_of links) same in let step = ap (λ (l : Link). l.step) c.link_before-link.ensures in omega (arith, is, step, c.if-i-next.true)) i.passed

pub returns-clause-syncs : goal.returns-clause-syncs
returns-clause-syncs c =
    let i = c.loop-at.invariant in
    syncs_seen c.args.run.now c.args.j c.args.next c.loop-at.at c.args.wakers.now.heads.items c.args.wakers.now.links.items c.loop-at.clock c.requires.wakers c.requires.next i.low
    (λ b e. absurd (omega (arith, e, c.loop-at-test.false))) i.passed
