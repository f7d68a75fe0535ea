use Rattle.mr_clocks.proofs.Common.{refl, arith, HappensBefore-before}
use Rattle.mr_clocks.proofs.whole.is_ready_plain.Goals as goal

pub returns : goal.returns
returns c = (
  λ e a h. let before = HappensBefore-before h in let all = c.loop-a-test.false in c.loop-a.invariant a (omega (arith, before, all)) h,
  λ r. refl,
)
