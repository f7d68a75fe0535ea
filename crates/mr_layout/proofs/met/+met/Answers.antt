use Rattle.mr_layout.proofs.Common.{◌+◌, ◌*◌, ◌^◌, min, take, sym, ap, ◌∙◌, arith, is_used, is_met, is_in_order, Ty, size_of}
use Rattle.mr_layout.proofs.RunLaws.{order_past}
use Rattle.mr_layout.proofs.RowLaws.{array_init, array_empty, rows_empty, rows_next, rows_over, order_rest}
use Rattle.mr_layout.proofs.met.+met.Goals.{is_met-then-len-eq0-via-then-len-eq0, is_met-then-len-eq0-via-else-len-eq0+then-stop-range}
use Rattle.mr_layout.proofs.met.+met.Goals as goal

pub is_met-loop-range-init : goal.is_met-loop-range-init
is_met-loop-range-init t c =
    let len = c.row_len-len.ensures (size_of c.get.result.now) c.size.ensures ∙ ap (λ (e : Ty). min (size_of e) (2 ^ 63)) c.get.ensures in
    let stop = c.row_stop-stop.ensures (size_of c.get-in-Array.result.now) c.size-in-Array.ensures ∙ ap (λ (e : Ty). min c.args.end (c.args.start + c.in-Array.count * size_of e)) c.get-in-Array.ensures in (
      array_init c.args.t.now c.in-Array.count c.in-Array.elem c.args.start c.args.end c.args.ranges.now c.ranges_past-range-items.result.now c.row_len-len.result c.row_stop-stop.result
          c.requires.small c.in-Array.is c.ranges_past-range-items.ensures len stop,
      ap is_in_order c.ranges_past-range-items.ensures ∙ order_past 0 c.args.start c.args.ranges.now c.requires.order,
    )

pub is_met-returns-then-len-eq0 : goal.is_met-returns-then-len-eq0
is_met-returns-then-len-eq0 t c =
    elim c.then-len-eq0.branch [
      | is_met-then-len-eq0-via-then-len-eq0 w ↦
          let len = c.row_len-len.ensures (size_of c.get.result.now) c.size.ensures ∙ ap (λ (e : Ty). min (size_of e) (2 ^ 63)) c.get.ensures in
          let stop = c.row_stop-stop.ensures (size_of c.get-in-Array.result.now) c.size-in-Array.ensures ∙ ap (λ (e : Ty). min c.args.end (c.args.start + c.in-Array.count * size_of e)) c.get-in-Array.ensures in
          sym (c.loop-range.invariant.0
          ∙ rows_empty (is_used c.in-Array.elem) c.row_len-len.result c.args.start c.row_stop-stop.result _
          (array_empty c.in-Array.count (size_of c.in-Array.elem) c.args.start c.args.end c.row_stop-stop.result c.row_len-len.result len stop (omega arith)))
      | is_met-then-len-eq0-via-else-len-eq0+then-stop-range w ↦
          sym (c.loop-range.invariant.0
          ∙ rows_over (is_used c.in-Array.elem) c.row_len-len.result c.args.start c.row_stop-stop.result c.ranges_past-range-items.result.now c.loop-range.range-index (0, 0) (omega arith) (omega arith)
          c.loop-range.invariant.1)
    ]

pub is_met-loop-range-preserved : goal.is_met-loop-range-preserved
is_met-loop-range-preserved t c = (
  c.loop-range.invariant.0
      ∙ rows_next (is_used c.in-Array.elem) c.row_len-len.result c.args.start c.row_stop-stop.result c.ranges_past-range-items.result.now c.loop-range.range-index (0, 0) (omega arith)
      (c.pieces-pieces.ensures.same (is_used c.in-Array.elem) ∙ ap (λ (e : Ty). is_met (is_used e) 0 c.row_len-len.result (take c.pieces-pieces.result.1 c.pieces-pieces.result.0)) (sym c.get-in-loop-range.ensures) ∙ sym c.is_met.ensures ∙ c.if-is_met.false),
  order_rest c.ranges_past-range-items.result.now c.loop-range.range-index (0, 0) (omega arith) c.loop-range.invariant.1,
)
