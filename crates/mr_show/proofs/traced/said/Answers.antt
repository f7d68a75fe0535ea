use Rattle.mr_show.proofs.Common.{◌≡◌, ℕ, List, ap, subst, ◌∙◌, Err, Ok, Result, Answer, Untold, IsTextOf, count_of}
use Rattle.mr_traced.specs.declared.telling.Told.{Told}
use Rattle.mr_traced.specs.Answers.{TellsBy}
use Rattle.mr_show.proofs.TracedLaws.{answer_with, told_so}
use Rattle.mr_show.proofs.traced.said.Goals as goal

pub returns-in-Ok-clause-answer : goal.returns-in-Ok-clause-answer
returns-in-Ok-clause-answer c = λ what defined tells.
    ap (answer_with c.in-Ok.told.text.items) c.status_of-status.ensures.status
    ∙ told_so what c.in-Ok.told defined
    (subst (λ (r : Result Told Untold). TellsBy (count_of what) (IsTextOf what) r defined) c.in-Ok.is tells)
