use Rattle.mr_clocks.proofs.Common.{arith}
use Rattle.mr_clocks.proofs.index.place_behind.Goals as goal

pub returns : goal.returns
returns c = λ p low. (omega arith, omega (arith, low, c.saturating_add.ensures))
