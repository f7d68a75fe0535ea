use Rattle.mr_clocks.proofs.Common.{◌≡◌, ℕ, ◌<◌, true, false, get_or, ap, sym, subst, ◌∙◌, arith, get_or_default, Contains, ℕ_discrete, Access, span_of}
use Rattle.mr_clocks.proofs.spans.gathered.Goals as goal

pub loop-i-init : goal.loop-i-init
loop-i-init c = λ d z lt. absurd (omega (arith, lt))

pub loop-i-preserved : goal.loop-i-preserved
loop-i-preserved c = λ d z lt some wanted.
    let none : Access = record { store = false; atomic = false; addr = 0; len = 0 } in
    let accesses = c.args.accesses.now in
    let new = c.add_span.new.spans.items in
    elim (ℕ_discrete z c.loop-i.i) [
      | no ne ↦ c.in_ok-add_span.ensures.kept _ (c.loop-i.invariant d z (omega (arith, lt, ne)) some wanted)
      | yes is ↦
          let same : get_or accesses z d ≡ get_or accesses c.loop-i.i none = ap (λ (q : ℕ). get_or accesses q d) is ∙ get_or_default accesses c.loop-i.i d none c.loop-i-test.true in
          subst (λ (a : Access). 0 < a.len → (c.args.every ≡ false → a.store ≡ true) → Contains new (span_of a)) (sym same) c.in_ok-add_span.ensures.here some wanted
    ]

pub returns : goal.returns
returns c = λ a among some wanted.
    let inside = among.1 in
    subst (λ (b : Access). 0 < b.len → (c.args.every ≡ false → b.store ≡ true) → Contains c.loop-i.spans.items (span_of b)) among.2
    (c.loop-i.invariant a among.0 (omega (arith, inside, c.loop-i-test.false))) some wanted
