use Rattle.mr_layout.proofs.Common.{ap, ◌∙◌, arith, field_range}
use Rattle.mr_layout.proofs.AlikeLaws.{not_empty_step, past_next}
use Rattle.mr_layout.proofs.alike.field_ranges.Goals as goal

pub loop-field-preserved : goal.loop-field-preserved
loop-field-preserved c =
    let f = c.field-item.result in (
      not_empty_step field_range c.args.fields.now c.loop-field.field-index f (omega arith) c.loop-field.ranges.items c.push_range.new.ranges.items c.loop-field.invariant.0
          (f.0, c.field_size.result) (ap (λ n. (f.0, n)) c.field_size.ensures ∙ ap field_range c.field-item.is) c.in_ok-push_range.ensures,
      past_next c.args.end c.args.fields.now c.loop-field.field-index f (omega arith) c.loop-field.invariant.1,
    )
