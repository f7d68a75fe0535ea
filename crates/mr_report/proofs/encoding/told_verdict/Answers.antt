use Rattle.std.proofs.Common.{◌++◌, ◌∙◌, ap, subst, sym}
use Rattle.std.specs.Str.{IsUtf8}
use Rattle.mr_report.specs.Report.{verdict_text}
use Rattle.mr_report.proofs.PlainLaws.{plain_utf8, verdict_plain}
use Rattle.mr_report.proofs.encoding.told_verdict.Goals as goal

pub told_string-requires : goal.told_string-requires
told_string-requires c =
    let text = verdict_text c.args.verdict in
    subst IsUtf8 (sym (c.in_ok-push_verdict_text.ensures.ok ∙ ap (λ t. t ++ text) c.new-text.ensures.items)) (plain_utf8 text (verdict_plain c.args.verdict))
