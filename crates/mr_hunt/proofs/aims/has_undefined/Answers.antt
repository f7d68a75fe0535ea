use Rattle.mr_hunt.proofs.Common.{◌∙◌, ap}
use Rattle.mr_hunt.specs.Aims.{is_undefined}
use Rattle.mr_hunt.proofs.aims.has_undefined.Goals as goal

pub returns : goal.returns
returns c = λ laid. c.is_undefined.ensures ∙ ap is_undefined c.in_ok-verdict.ensures
