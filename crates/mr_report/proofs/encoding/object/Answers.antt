use Rattle.std.proofs.Common.{map, option_copied, option_map, string_bytes}
use Rattle.serde_json.proofs.FreeTexts.{text_of_value}
use Rattle.mr_report.specs.Sent.{report_data}
use Rattle.mr_report.proofs.SentLaws.{report_whole, told_text_is}
use Rattle.mr_report.proofs.encoding.object.Goals as goal

pub returns-in-Ok : goal.returns-in-Ok
returns-in-Ok c =
    let r = c.args.r.now in
    let texts = map (λ s. s.now) c.in_ok-told_texts.field-0.items in
    let places = c.in_ok-told_races.field-0.items in
    let verdict = string_bytes c.in_ok-told_verdict.field-0 in
    let witness = option_map string_bytes c.in_ok-told_witness.field-0 in
    let sent = c.in-Ok.ensures.events in
    let text = text_of_value (report_data texts places verdict witness) sent.0 c.in-Ok.bytes.items sent.1 sent.2 (report_whole texts places verdict witness) in
    told_text_is r.output.now r.verdict r.races.now (option_copied r.witness) r.version texts places verdict witness c.in-Ok.bytes.items
    c.requires.texts c.in_ok-told_texts.ensures c.in_ok-told_races.ensures c.in_ok-told_verdict.ensures c.in_ok-told_witness.ensures text
