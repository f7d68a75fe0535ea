use Rattle.mr_clocks.proofs.Common.{arith, rules, length, nat_lt, Span, span_at}
use Rattle.std.proofs.lemmas.List.Sorted.{IsPartitionPoint-from_clause, IsPartitionedBy-ltb}
use Rattle.mr_base.proofs.Comparisons.{le_test, lt_test}
use Rattle.mr_clocks.proofs.SpanLaws.{touch_found}
use Rattle.mr_clocks.proofs.spans.touches.Goals as goal

pub returns-then-first-spans : goal.returns-then-first-spans
returns-then-first-spans c = λ b s meets.
    let spans = c.args.spans.now in
    let a = c.args.access in
    let at = c.partition_point-first.result in
    let parted = IsPartitionedBy-ltb (λ (q : Span). q.last) spans a.addr c.requires.lasts in
    let point = IsPartitionPoint-from_clause (λ (q : Span). nat_lt q.last a.addr) _ _ c.partition_point-first.ensures.partitioned parted (λ a r q k. search rules) in
    let f = touch_found spans a b at c.requires (omega arith) s meets (λ k d inside before. point.0 k d (omega arith) before) in
    let low = f.1 in
    let high = f.2 in
    let small = c.if-first-spans.element_fits.fits in
    le_test (span_at spans at).first c.last_of.result (omega (arith, low, high, small, c.last_of.ensures))

pub returns-else-first-spans : goal.returns-else-first-spans
returns-else-first-spans c = λ b s meets.
    let spans = c.args.spans.now in
    let a = c.args.access in
    let at = c.partition_point-first.result in
    let parted = IsPartitionedBy-ltb (λ (q : Span). q.last) spans a.addr c.requires.lasts in
    let point = IsPartitionPoint-from_clause (λ (q : Span). nat_lt q.last a.addr) _ _ c.partition_point-first.ensures.partitioned parted (λ a r q k. search rules) in
    let f = touch_found spans a b at c.requires (omega arith) s meets (λ k d inside before. point.0 k d (omega arith) before) in
    lt_test at (length spans) f.0
