use Rattle.mr_rust_order.proofs.Common.{sym, ◌∙◌, arith, counts, Row}
use Rattle.mr_rust_order.proofs.TopLaws.{with_not, with_passed, with_past}
use Rattle.mr_rust_order.proofs.loads.later.Goals as goal

pub returns-then-x-rows : goal.returns-then-x-rows
returns-then-x-rows c = with_past c.args.rows.now (λ (r : Row). counts c.args.every r.range c.args.byte) c.args.x c.args.latest (omega arith)

pub returns-then-not-counts : goal.returns-then-not-counts
returns-then-not-counts c =
    with_not c.args.rows.now (λ (r : Row). counts c.args.every r.range c.args.byte) c.args.x c.args.latest c.row_at-row.result.now c.row_at-row.ensures
    (sym c.counts.ensures ∙ c.if-not-counts.true)

pub returns : goal.returns
returns c =
    with_passed c.args.rows.now (λ (r : Row). counts c.args.every r.range c.args.byte) c.args.x c.args.latest c.max.result c.row_at-row.result.now (omega arith) c.row_at-row.ensures
    (sym c.counts.ensures ∙ c.if-not-counts.false) c.max.ensures
