use Rattle.mr_show.proofs.Common.{ℕ, List, ap, ap₂, ◌∙◌, Answer, seen, either}
use Rattle.mr_event.specs.declared.footprint.Pair.{Pair}
use Rattle.mr_answer.specs.Report.{report_status}
use Rattle.mr_show.proofs.laid.written.Goals as goal

pub text_of-requires-clause-rust : goal.text_of-requires-clause-rust
text_of-requires-clause-rust c = c.as_slice.ensures.value ∙ c.in_ok-rust.ensures

pub returns-clause-answer : goal.returns-clause-answer
returns-clause-answer c =
    let s = seen c.args.shown.now in
    let said : List ℕ → ℕ → Answer = λ text status. record { text = text; status = status } in
    let listed = c.either.ensures ∙ ap (λ (xs : List Pair). either xs s.races) (c.as_slice-2.ensures.value ∙ c.in_ok-rust.ensures) in
    ap₂ said c.in_ok-text.ensures (c.status_of.ensures.status ∙ ap (report_status s.verdict) listed)
