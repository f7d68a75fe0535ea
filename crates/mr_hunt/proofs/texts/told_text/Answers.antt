use Rattle.mr_hunt.proofs.Common.{ℕ, List, ◌++◌, ◌∙◌, ap, ap₂, codes}
use Rattle.mr_listing.specs.ReportReport.{line, verdict_text}
use Rattle.mr_hunt.proofs.texts.told_text.Goals as goal

pub returns : goal.returns
returns c =
    let join : List ℕ → List ℕ → List ℕ = λ xs ys. xs ++ ys in
    c.in_ok-extend_from_slice-2.ensures.items
    ∙ ap₂ join
    (c.in_ok-extend_from_slice.ensures.items
    ∙ ap (λ xs. xs ++ c.args.races.now)
    (c.in_ok-push_verdict_line.ensures
    ∙ ap (λ xs. xs ++ line (codes "verdict " ++ verdict_text c.args.verdict)) c.in_ok-out.ensures))
    (c.as_slice.ensures.value ∙ c.in_ok-command.ensures)
