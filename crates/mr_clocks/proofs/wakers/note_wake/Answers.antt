use Rattle.mr_clocks.proofs.Common.{◌≡◌, ◌≢◌, ◌+◌, ◌-◌, ◌++◌, ◌∷◌, [], ℕ, List, ap, length, set, slice_index, subst, ◌∙◌, arith, Link, step_of}
use Rattle.mr_clocks.proofs.Chains.{in_here}
use Rattle.mr_clocks.proofs.WakerLaws.{wake_kept, wake_own, wakers_more}
use Rattle.mr_clocks.proofs.wakers.note_wake.Goals as goal

pub is_first-requires : goal.is_first-requires
is_first-requires c = let low = c.requires.wakers.low c.args.thread in omega (arith, low, c.head-before.ensures, ap length c.as_slice.ensures.value)

pub returns-then-is_first-clause-own : goal.returns-then-is_first-clause-own
returns-then-is_first-clause-own c =
    let links = c.args.wakers.now.links.items in
    let at = slice_index c.args.wakers.now.heads.items c.args.thread in
    let some = c.is_first.ensures.some c.if-is_first.true in
    let top : ℕ = at - 1 in
    let is : at ≡ top + 1 = omega (arith, some, c.head-before.ensures) in
    record {
      link = top;
      inside = in_here links top at is;
      is = subst (λ (l : List Link). step_of l top ≡ c.args.j) c.as_slice.ensures.value (c.is_first.ensures.here c.if-is_first.true top (c.head-before.ensures ∙ is));
    }

pub returns-then-is_first-clause-kept : goal.returns-then-is_first-clause-kept
returns-then-is_first-clause-kept c = λ t k. k

pub returns-clause-wakers : goal.returns-clause-wakers
returns-clause-wakers c =
    let heads = c.args.wakers.now.heads.items in
    let links = c.args.wakers.now.links.items in
    let other : (k : ℕ) → slice_index heads c.args.thread ≡ k + 1 → step_of links k ≢ c.args.j =
    subst (λ (l : List Link). (k : ℕ) → slice_index heads c.args.thread ≡ k + 1 → step_of l k ≢ c.args.j) c.as_slice.ensures.value
    (λ k e. c.is_first.ensures.other c.if-is_first.false k (c.head-before.ensures ∙ e)) in
    let linked = c.push_reserved.ensures.items ∙ ap (λ (q : ℕ). links ++ (record { step = c.args.j; before = q }) ∷ []) c.head-before.ensures in
    let count : c.len.result ≡ length links + 1 = omega (arith, c.len.ensures, c.push_reserved.ensures.len, c.args.wakers.now.links.ok.0) in
    wakers_more c.args.run.now c.args.j c.args.thread heads (set heads c.args.thread c.len.result) links c.push_reserved.new.self.items c.requires.wakers c.requires.reached other linked (ap (set heads c.args.thread) count)

pub returns-clause-own : goal.returns-clause-own
returns-clause-own c =
    let heads = c.args.wakers.now.heads.items in
    let links = c.args.wakers.now.links.items in
    let other : (k : ℕ) → slice_index heads c.args.thread ≡ k + 1 → step_of links k ≢ c.args.j =
    subst (λ (l : List Link). (k : ℕ) → slice_index heads c.args.thread ≡ k + 1 → step_of l k ≢ c.args.j) c.as_slice.ensures.value
    (λ k e. c.is_first.ensures.other c.if-is_first.false k (c.head-before.ensures ∙ e)) in
    let linked = c.push_reserved.ensures.items ∙ ap (λ (q : ℕ). links ++ (record { step = c.args.j; before = q }) ∷ []) c.head-before.ensures in
    let count : c.len.result ≡ length links + 1 = omega (arith, c.len.ensures, c.push_reserved.ensures.len, c.args.wakers.now.links.ok.0) in
    wake_own c.args.run.now c.args.j c.args.thread heads (set heads c.args.thread c.len.result) links c.push_reserved.new.self.items c.requires.wakers c.requires.reached other linked (ap (set heads c.args.thread) count)

pub returns-clause-kept : goal.returns-clause-kept
returns-clause-kept c = λ t k.
    let heads = c.args.wakers.now.heads.items in
    let links = c.args.wakers.now.links.items in
    let other : (k : ℕ) → slice_index heads c.args.thread ≡ k + 1 → step_of links k ≢ c.args.j =
    subst (λ (l : List Link). (k : ℕ) → slice_index heads c.args.thread ≡ k + 1 → step_of l k ≢ c.args.j) c.as_slice.ensures.value
    (λ k e. c.is_first.ensures.other c.if-is_first.false k (c.head-before.ensures ∙ e)) in
    let linked = c.push_reserved.ensures.items ∙ ap (λ (q : ℕ). links ++ (record { step = c.args.j; before = q }) ∷ []) c.head-before.ensures in
    let count : c.len.result ≡ length links + 1 = omega (arith, c.len.ensures, c.push_reserved.ensures.len, c.args.wakers.now.links.ok.0) in
    wake_kept c.args.run.now c.args.j c.args.thread heads (set heads c.args.thread c.len.result) links c.push_reserved.new.self.items c.requires.wakers c.requires.reached other linked (ap (set heads c.args.thread) count) t c.args.j k
