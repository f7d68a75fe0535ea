use Rattle.mr_auto.proofs.Common.{◌≡◌, ap, arith, length, sym, ◌∙◌, filter, range_with_len, slice_get, is_enabled}
use Rattle.mr_auto.proofs.Among.{thread_joins, thread_stays_out}
use Rattle.mr_auto.proofs.candidates.enabled_threads.Goals as goal
use Rattle.mr_auto.proofs.candidates.enabled_threads.Goals.{then-enabled+in_ok-push, else-enabled}

pub loop-t-preserved : goal.loop-t-preserved
loop-t-preserved c = λ s here.
    elim c.if-enabled.branch [
      | then-enabled+in_ok-push w ↦ rw (w.threads-is, w.in_ok-push.ensures.items) (thread_joins (λ t. is_enabled (slice_get s.shared.statuses t)) c.loop-t.t c.loop-t.threads.items (c.loop-t.invariant s here) (sym (c.enabled.ensures.there s here) ∙ w.if-enabled.true))
      | else-enabled w ↦ rw w.threads-is (thread_stays_out (λ t. is_enabled (slice_get s.shared.statuses t)) c.loop-t.t c.loop-t.threads.items (c.loop-t.invariant s here) (sym (c.enabled.ensures.there s here) ∙ w.if-enabled.false))
    ]

pub returns : goal.returns
returns c = λ s here.
    let many = c.threads-t-end.ensures.there s here in
    let above = c.loop-t.auto.t-end in
    let over = c.loop-t-test.false in
    let all : c.loop-t.t ≡ length s.shared.statuses = omega arith in
    c.loop-t.invariant s here ∙ ap (λ n. filter (λ t. is_enabled (slice_get s.shared.statuses t)) (range_with_len 0 n)) all
