use Rattle.mr_clocks.proofs.Common.{Bool, true, false, sym, subst, AreSpansFor}
use Rattle.mr_clocks.proofs.spans.chosen.Goals as goal

pub returns-then-every : goal.returns-then-every
returns-then-every c =
    let accesses = c.args.step.now.accesses in
    subst (λ (b : Bool). AreSpansFor accesses b c.as_slice.result.now) (sym c.if-every.true) (subst (AreSpansFor accesses true) (sym c.as_slice.ensures.value) c.requires.all)

pub returns-else-every : goal.returns-else-every
returns-else-every c =
    let accesses = c.args.step.now.accesses in
    subst (λ (b : Bool). AreSpansFor accesses b c.as_slice-else-every.result.now) (sym c.if-every.false) (subst (AreSpansFor accesses false) (sym c.as_slice-else-every.ensures.value) c.requires.stores)
