use Rattle.mr_clocks.proofs.Common.{ℕ, false, get_or, subst, sym, arith, Contains, get_or_default, ℕ_discrete, Access}
use Rattle.mr_clocks.proofs.skips.are_among.Goals as goal

pub loop-i-preserved : goal.loop-i-preserved
loop-i-preserved c = λ k d lt.
    let none : Access = record { store = false; atomic = false; addr = 0; len = 0 } in
    let by = c.args.by.now in
    let accesses = c.args.accesses.now in
    elim (ℕ_discrete k c.loop-i.i) [
      | yes e ↦
          subst (λ (q : ℕ). Contains accesses (get_or by q d)) (sym e)
          (subst (λ (a : Access). Contains accesses a) (get_or_default by c.loop-i.i none d c.loop-i-test.true) (c.has_access.ensures c.if-not-has_access.false))
      | no ne ↦ c.loop-i.invariant k d (omega (arith, lt, ne))
    ]

pub returns : goal.returns
returns c = λ _ b h.
    let inside = h.1 in
    subst (λ (a : Access). Contains c.args.accesses.now a) h.2 (c.loop-i.invariant h.0 b (omega (arith, inside)))
