use Rattle.mr_rust_order.proofs.Common.{arith, takes, Row}
use Rattle.mr_rust_order.proofs.LoadLaws.{taken_is_store}
use Rattle.mr_rust_order.proofs.TopLaws.{joined_begins, joined_ends, joined_next}
use Rattle.mr_rust_order.proofs.loads.take_all.Goals as goal

pub loop-z-init : goal.loop-z-init
loop-z-init c = joined_begins c.args.rows.now (λ (r : Row). takes r c.args.byte c.args.latest) c.args.found.now c.args.clock.now

pub loop-z-preserved : goal.loop-z-preserved
loop-z-preserved c =
    joined_next c.args.rows.now (λ (r : Row). takes r c.args.byte c.args.latest) c.args.found.now c.loop-z.z c.args.clock.now c.loop-z.clock c.take.new.clock c.loop-z.invariant c.in_ok-take.ensures

pub returns : goal.returns
returns c =
    let rows = c.args.rows.now in
    joined_ends rows (λ (r : Row). takes r c.args.byte c.args.latest) c.args.found.now c.loop-z.z c.args.clock.now c.loop-z.clock (omega arith)
    (λ x p. c.requires.found x p.within (taken_is_store rows c.args.byte c.args.latest x p)) c.loop-z.invariant
