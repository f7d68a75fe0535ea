use Rattle.mr_rust_order.proofs.Common.{arith, counts, Row}
use Rattle.mr_rust_order.proofs.LoadLaws.{passes_is_store}
use Rattle.mr_rust_order.proofs.TopLaws.{top_begins, top_ends, top_next}
use Rattle.mr_rust_order.proofs.loads.latest_at.Goals as goal

pub loop-z-init : goal.loop-z-init
loop-z-init c = top_begins c.args.rows.now (λ (r : Row). counts c.args.every r.range c.args.byte) c.args.found.now

pub loop-z-preserved : goal.loop-z-preserved
loop-z-preserved c =
    top_next c.args.rows.now (λ (r : Row). counts c.args.every r.range c.args.byte) c.args.found.now c.loop-z.z c.loop-z.latest c.later-latest.result c.loop-z.invariant c.later-latest.ensures

pub returns : goal.returns
returns c =
    let rows = c.args.rows.now in
    top_ends rows (λ (r : Row). counts c.args.every r.range c.args.byte) c.args.found.now c.loop-z.z c.loop-z.latest (omega arith)
    (λ x p. c.requires.found x p.within (passes_is_store rows c.args.every c.args.byte x p)) c.loop-z.invariant
