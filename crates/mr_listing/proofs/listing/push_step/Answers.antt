use Rattle.mr_listing.proofs.Common.{◌++◌, ◌∙◌, ap, ap₂, Option, flat_map, slice_get, List, partner_line, partners_at, seen, print_line}
use Rattle.mr_event.specs.Footprint.{Footprint}
use Rattle.mr_report.specs.declared.report.Line.{Line}
use Rattle.mr_listing.specs.declared.held.StepValues.{StepValues}
use Rattle.mr_listing.specs.Steps.{foot_text, head_line, printed_by}
use Rattle.mr_listing.proofs.Appended.{behind, last_behind}
use Rattle.mr_listing.proofs.listing.push_step.Goals as goal

pub returns : goal.returns
returns c =
    let s = seen c.args.shown.now in
    let told = c.args.told.now in
    let old = c.args.out.now.items in
    let head = head_line s told in
    let prints = flat_map print_line (printed_by s.lines told) in
    let foot = foot_text s (slice_get c.args.values.now told.number) told (slice_get s.feet told.number) in
    last_behind c.push_partners.result old (head ++ prints ++ foot)
    (flat_map partner_line (partners_at s.races told.number)) _ _
    (behind old (head ++ prints) foot _ _
    (behind old head prints _ _ c.in_ok-push_head.ensures
    (c.in_ok-push_prints.ensures
    ∙ ap (λ (ls : List Line). c.push_head.new.out.items ++ flat_map print_line ls) c.printed_by.ensures))
    (c.in_ok-push_foot.ensures
    ∙ ap₂ (λ (v : Option StepValues) (o : Option Footprint). c.push_prints.new.out.items ++ foot_text s v told o)
    c.values_at-held.ensures c.foot_at.ensures))
    c.push_partners.ensures
