use Rattle.mr_mem.proofs.SpanLaws.{last_before, none_before}
use Rattle.mr_mem.proofs.spans.shared_before.Goals as goal

pub returns-in-Some : goal.returns-in-Some
returns-in-Some c =
    last_before c.args.by_start.now c.args.addr c.args.size c.requires c.range.result (c.range.ensures.in_range tt) _ _ c.in-Some.ensures.steps c.shared.result c.shared.ensures

pub returns-in-None : goal.returns-in-None
returns-in-None c =
    none_before c.args.by_start.now c.args.addr c.args.size c.requires c.range.result (c.range.ensures.in_range tt) c.in-None.ensures.steps.0
