use Rattle.mr_rust_order.proofs.Common.{arith, is_partner}
use Rattle.mr_rust_order.proofs.PartnerLaws.{passes_conflict}
use Rattle.mr_rust_order.proofs.TopLaws.{top_begins, top_ends, top_next}
use Rattle.mr_rust_order.proofs.partners.best_by.Goals as goal

pub loop-z-init : goal.loop-z-init
loop-z-init c = top_begins c.args.rows.now (is_partner c.args.thread c.args.access c.args.clock.now) c.args.found.now

pub loop-z-preserved : goal.loop-z-preserved
loop-z-preserved c =
    top_next c.args.rows.now (is_partner c.args.thread c.args.access c.args.clock.now) c.args.found.now c.loop-z.z c.loop-z.best c.better-best.result c.loop-z.invariant c.better-best.ensures

pub returns : goal.returns
returns c =
    let rows = c.args.rows.now in
    top_ends rows (is_partner c.args.thread c.args.access c.args.clock.now) c.args.found.now c.loop-z.z c.loop-z.best (omega arith)
    (λ x p. c.requires.found x p.within (passes_conflict rows c.args.thread c.args.access c.args.clock.now x p)) c.loop-z.invariant
