use Rattle.mr_replay.proofs.Common.{◌∙◌, ap, [], ◌∷◌, ◌++◌, Option}
use Rattle.mr_labels.specs.declared.step.Stand.{Stand}
use Rattle.mr_replay.proofs.ToldLaws.{where_ok}
use Rattle.mr_replay.proofs.stepping.stand_step.Goals as goal

pub returns-in-Ok-clause-stood : goal.returns-in-Ok-clause-stood
returns-in-Ok-clause-stood g c =
    where_ok c.step.result
    (c.in-Ok.ensures.items ∙ ap (λ (s : Option Stand). c.args.stands.now.items ++ s ∷ []) c.stand_of-stand.ensures)
