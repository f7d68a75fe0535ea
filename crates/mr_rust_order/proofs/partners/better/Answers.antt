use Rattle.mr_rust_order.proofs.Common.{sym, ◌∙◌, arith, is_partner}
use Rattle.mr_rust_order.proofs.TopLaws.{with_not, with_passed, with_past}
use Rattle.mr_rust_order.proofs.partners.better.Goals as goal

pub returns-then-x-rows : goal.returns-then-x-rows
returns-then-x-rows c = with_past c.args.rows.now (is_partner c.args.thread c.args.access c.args.clock.now) c.args.x c.args.best (omega arith)

pub returns-then-not-is_partner : goal.returns-then-not-is_partner
returns-then-not-is_partner c =
    with_not c.args.rows.now (is_partner c.args.thread c.args.access c.args.clock.now) c.args.x c.args.best c.row_at-row.result.now c.row_at-row.ensures
    (sym c.is_partner.ensures ∙ c.if-not-is_partner.true)

pub returns : goal.returns
returns c =
    with_passed c.args.rows.now (is_partner c.args.thread c.args.access c.args.clock.now) c.args.x c.args.best c.max.result c.row_at-row.result.now (omega arith) c.row_at-row.ensures
    (sym c.is_partner.ensures ∙ c.if-not-is_partner.false) c.max.ensures
