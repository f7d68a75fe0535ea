use Rattle.mr_clocks.proofs.Common.{◌∙◌, ap, slice_index, sym}
use Rattle.mr_clocks.proofs.RowLaws.{next_of}
use Rattle.mr_clocks.proofs.hints.leads_anew.Goals as goal

pub edge-requires-clause-apart : goal.edge-requires-clause-apart
edge-requires-clause-apart c = λ same. c.if-thread-thread_at.false (c.thread_at-thread.ensures ∙ same ∙ sym c.thread_at.ensures)

pub edge-requires-clause-next : goal.edge-requires-clause-next
edge-requires-clause-next c =
    next_of c.args.run.now c.args.j c.at-next.result c.args.latest.now c.requires.latest (c.at-next.ensures ∙ ap (slice_index c.args.latest.now) c.thread_at-2.ensures)

pub returns : goal.returns
returns c = c.edge.ensures.0
