use Rattle.mr_refusals.proofs.CaretLaws.{over_caret}
use Rattle.mr_refusals.proofs.law.caret_is_below.Goals as goal

pub returns : goal.returns
returns c = over_caret
