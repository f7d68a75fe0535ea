use Rattle.mr_clocks.proofs.Common.{◌∙◌, refl, arith, span_at}
use Rattle.mr_clocks.proofs.SpanLaws.{greater, risen_all, risen_more, risen_none}
use Rattle.mr_clocks.proofs.spans.risen.Goals as goal

pub loop-i-init : goal.loop-i-init
loop-i-init c = risen_none c.args.spans.now c.new-all.result.items 0 c.new-all.ensures.items

pub loop-i-preserved : goal.loop-i-preserved
loop-i-preserved c =
    let spans = c.args.spans.now in
    let span = span_at spans c.loop-i.i in
    risen_more spans c.loop-i.all.items c.push.new.self.items c.loop-i.i c.loop-i.top c.max-top.result span c.requires c.loop-i-test.true
    refl (c.max-top.ensures ∙ greater c.loop-i.top span.last) c.in_ok-push.ensures.items c.loop-i.invariant

pub returns-clause-rising : goal.returns-clause-rising
returns-clause-rising c = c.loop-i.invariant.rising

pub returns-clause-each : goal.returns-clause-each
returns-clause-each c = risen_all c.args.spans.now c.loop-i.all.items c.loop-i.i c.loop-i.top c.loop-i.invariant (omega (arith, c.loop-i-test.false))
