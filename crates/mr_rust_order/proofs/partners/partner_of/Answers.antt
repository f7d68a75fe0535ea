use Rattle.mr_rust_order.proofs.Common.{ℕ, ◌-◌, subst, arith, IsPartnerBy, IsTop}
use Rattle.mr_rust_order.proofs.PartnerLaws.{top_is_greatest, top_is_none}
use Rattle.mr_rust_order.proofs.partners.partner_of.Goals as goal

pub returns-then-best-eq0-clause-partner : goal.returns-then-best-eq0-clause-partner
returns-then-best-eq0-clause-partner c =
    let rows = c.args.rows.now in
    let f = c.args.step.now in
    top_is_none rows f c.args.clock.now (subst (λ (n : ℕ). IsTop rows (IsPartnerBy rows f.accesses f.thread c.args.clock.now) n) c.if-best-eq0.true c.in_ok-best.ensures.top)

pub returns-clause-partner : goal.returns-clause-partner
returns-clause-partner c = top_is_greatest c.args.rows.now c.args.step.now c.args.clock.now c.in_ok-best.best (c.in_ok-best.best - 1) (omega arith) c.in_ok-best.ensures.top
