use Rattle.mr_typing.proofs.UnbrokenLaws.{well_formed_keeps}
use Rattle.mr_typing.proofs.laws.keeps_rules.Goals as goal

pub returns : goal.returns
returns c = λ p well. well_formed_keeps p well
