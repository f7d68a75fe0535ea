use Rattle.std.proofs.Common.{◌++◌, ◌∙◌, ap, subst, sym}
use Rattle.std.specs.Str.{IsUtf8}
use Rattle.mr_sched.specs.Versions.{text_in}
use Rattle.mr_report.proofs.PlainLaws.{plain_utf8, schedule_plain}
use Rattle.mr_report.proofs.encoding.told_witness.Goals as goal

pub told_string-requires : goal.told_string-requires
told_string-requires c =
    let text = text_in c.args.version c.in-Some.schedule.now in
    subst IsUtf8 (sym (c.in_ok-print_version.ensures.ok ∙ ap (λ t. t ++ text) c.new-text.ensures.items)) (plain_utf8 text (schedule_plain c.args.version c.in-Some.schedule.now))
