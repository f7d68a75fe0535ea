use Rattle.mr_clocks.proofs.Common.{◌≡◌, ◌-◌, ◌∙◌, ap, sym, arith, step_of}
use Rattle.mr_clocks.proofs.wakers.is_first.Goals as goal

pub returns-then-at-eq0-clause-other : goal.returns-then-at-eq0-clause-other
returns-then-at-eq0-clause-other c = λ _ k e. absurd (omega (arith, e, c.if-at-eq0.true))

pub returns-then-i-j-clause-here : goal.returns-then-i-j-clause-here
returns-then-i-j-clause-here c = λ _ k e. let same : k ≡ c.args.at - 1 = omega (arith, e) in ap (step_of c.args.links.now) same ∙ c.if-i-j.true

pub returns-clause-other : goal.returns-clause-other
returns-clause-other c = λ _ k e h. let same : k ≡ c.args.at - 1 = omega (arith, e) in c.if-i-j.false (sym (ap (step_of c.args.links.now) same) ∙ h)
