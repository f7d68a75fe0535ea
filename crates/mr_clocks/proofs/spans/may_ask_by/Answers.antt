use Rattle.mr_clocks.proofs.Common.{ap, sym, ◌∙◌, asks}
use Rattle.mr_clocks.proofs.SpanLaws.{overlap, rival}
use Rattle.mr_clocks.proofs.spans.may_ask_by.Goals as goal

pub returns-in-Range : goal.returns-in-Range
returns-in-Range c = λ asked.
    let step = c.args.step.now in
    let access = c.in-Range.access in
    let v = rival access step.accesses (ap (asks step) (sym c.in-Range.is) ∙ asked) in
    let o = overlap access v.is v.meets in
    c.touches.ensures v.is (c.chosen.ensures.each v.is v.among o.other v.stored) v.meets
