use Rattle.mr_rust_order.proofs.Common.{sym, ◌∙◌, arith, on_ok_weaker, takes, Row}
use Rattle.mr_rust_order.proofs.TopLaws.{joined_not, joined_passed, joined_past}
use Rattle.mr_rust_order.proofs.loads.take.Goals as goal

pub returns-then-x-rows : goal.returns-then-x-rows
returns-then-x-rows c = joined_past c.args.rows.now (λ (r : Row). takes r c.args.byte c.args.latest) c.args.x c.args.clock.now (omega arith)

pub returns-then-not-takes : goal.returns-then-not-takes
returns-then-not-takes c =
    joined_not c.args.rows.now (λ (r : Row). takes r c.args.byte c.args.latest) c.args.x c.args.clock.now c.row_at-row.result.now c.row_at-row.ensures (sym c.takes.ensures ∙ c.if-not-takes.true)

pub returns : goal.returns
returns c =
    on_ok_weaker c.join.result
    (λ j.
    joined_passed c.args.rows.now (λ (r : Row). takes r c.args.byte c.args.latest) c.args.x c.row_at-row.result.now c.args.clock.now c.join.new.self (omega arith) c.row_at-row.ensures
    (sym c.takes.ensures ∙ c.if-not-takes.false) j)
    c.join.ensures
