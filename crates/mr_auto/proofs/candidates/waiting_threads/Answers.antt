use Rattle.mr_auto.proofs.Common.{◌≡◌, ap, arith, length, sym, ◌∙◌, filter, range_with_len, slice_get, on_lock}
use Rattle.mr_auto.proofs.Among.{thread_joins, thread_stays_out}
use Rattle.mr_auto.proofs.candidates.waiting_threads.Goals as goal
use Rattle.mr_auto.proofs.candidates.waiting_threads.Goals.{then-waiting+in_ok-push, else-waiting}

pub loop-t-preserved : goal.loop-t-preserved
loop-t-preserved c = λ s here.
    elim c.if-waiting.branch [
      | then-waiting+in_ok-push w ↦ rw (w.threads-is, w.in_ok-push.ensures.items) (thread_joins (λ t. on_lock c.args.lock (slice_get s.shared.statuses t)) c.loop-t.t c.loop-t.threads.items (c.loop-t.invariant s here) (sym (c.waiting.ensures.there s here) ∙ w.if-waiting.true))
      | else-waiting w ↦ rw w.threads-is (thread_stays_out (λ t. on_lock c.args.lock (slice_get s.shared.statuses t)) c.loop-t.t c.loop-t.threads.items (c.loop-t.invariant s here) (sym (c.waiting.ensures.there s here) ∙ w.if-waiting.false))
    ]

pub returns : goal.returns
returns c = λ s here.
    let many = c.threads-t-end.ensures.there s here in
    let above = c.loop-t.auto.t-end in
    let over = c.loop-t-test.false in
    let all : c.loop-t.t ≡ length s.shared.statuses = omega arith in
    c.loop-t.invariant s here ∙ ap (λ n. filter (λ t. on_lock c.args.lock (slice_get s.shared.statuses t)) (range_with_len 0 n)) all
