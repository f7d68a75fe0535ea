use Rattle.std.proofs.Common.{get_or, subst, sym}
use Rattle.std.specs.Str.{IsUtf8}
use Rattle.mr_report.specs.declared.report.Line.{Line}
use Rattle.mr_report.proofs.PlainLaws.{plain_utf8, printed_are_plain}
use Rattle.mr_report.proofs.encoding.told_texts.Goals as goal

pub told_text-requires : goal.told_text-requires
told_text-requires c =
    let here = get_or c.args.lines.now c.loop-line.line-index c.line-item.result in
    let printed = c.requires c.loop-line.line-index c.line-item.result c.loop-line-test.true in
    let utf8 = subst (λ (l : Line). IsUtf8 l.text) (sym c.line-item.is) (plain_utf8 here.text (printed_are_plain here.text printed)) in
    subst IsUtf8 (sym c.as_slice.ensures) utf8
