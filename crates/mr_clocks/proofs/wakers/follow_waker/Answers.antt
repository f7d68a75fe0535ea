use Rattle.mr_clocks.proofs.Common.{◌∙◌, sym, both_ways, woken}
use Rattle.mr_clocks.proofs.wakers.follow_waker.Goals as goal

pub edge-requires-clause-apart : goal.edge-requires-clause-apart
edge-requires-clause-apart c = λ same. c.if-thread-thread_at.false (c.thread_at-thread.ensures ∙ same ∙ sym c.thread_at.ensures)

pub follow_edge-requires-clause-edge : goal.follow_edge-requires-clause-edge
follow_edge-requires-clause-edge c = c.edge.ensures.0 c.if-edge.true

pub returns-then-thread-thread_at-clause-under : goal.returns-then-thread-thread_at-clause-under
returns-then-thread-thread_at-clause-under c = λ s apart. absurd (apart (sym c.thread_at-thread.ensures ∙ c.if-thread-thread_at.true ∙ c.thread_at.ensures))

pub returns-then-is_under-clause-under : goal.returns-then-is_under-clause-under
returns-then-is_under-clause-under c = λ s apart. c.is_under.ensures.0 c.if-is_under.true

pub returns-then-edge-clause-under : goal.returns-then-edge-clause-under
returns-then-edge-clause-under c = λ s apart. c.in_ok-follow_edge.ensures.under

pub returns-then-edge-clause-kept : goal.returns-then-edge-clause-kept
returns-then-edge-clause-kept c = c.in_ok-follow_edge.ensures.kept

pub returns-clause-under : goal.returns-clause-under
returns-clause-under c = λ s apart. absurd (both_ways _ c.if-edge.false (c.edge.ensures.1 (woken s)))
