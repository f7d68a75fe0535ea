use Rattle.mr_show.proofs.Common.{ℕ, List, ◌++◌, ◌∙◌, ap}
use Rattle.std.proofs.lemmas.Result.{on_ok_weaker}
use Rattle.mr_listing.specs.ReportReport.{line}
use Rattle.mr_show.specs.Sentences.{sentence_of}
use Rattle.mr_show.proofs.sentences.push_reason.Goals as goal

pub returns-in-Undefined : goal.returns-in-Undefined
returns-in-Undefined c =
    rw c.in-Undefined.is
    (on_ok_weaker c.push_line.result
    (λ h. h
    ∙ ap (λ (xs : List ℕ). c.args.out.now.items ++ line xs) (c.sentence_of.ensures ∙ ap sentence_of c.code.ensures))
    c.push_line.ensures)
