use Rattle.mr_show.proofs.Common.{ℕ, List, ◌∙◌, ap, ap₂, Answer}
use Rattle.mr_answer.specs.Report.{report_status}
use Rattle.mr_show.proofs.witness.written.Goals as goal

pub returns-clause-answer : goal.returns-clause-answer
returns-clause-answer c =
    let say : List ℕ → ℕ → Answer = λ text status. record { text = text; status = status } in
    ap₂ say c.in_ok-text.ensures (c.status_of.ensures.status ∙ ap (report_status c.args.verdict) c.races.ensures)
