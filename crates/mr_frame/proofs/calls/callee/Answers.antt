use Rattle.mr_frame.proofs.Common.{None, ap, sym, ◌∙◌, arith, drop_all, Pointer, position_from}
use Rattle.mr_frame.proofs.CalleeLaws.{callee_is, here_found, not_here}
use Rattle.mr_frame.proofs.calls.callee.Goals as goal

-- what stands for a pointer that isn't there
abbrev nowhere : Pointer
nowhere = record { addr = 0; prov = None }

pub returns-then-is_same : goal.returns-then-is_same
returns-then-is_same c =
    let fs = c.args.functions.now in
    let i = c.loop-number.number in
    sym (callee_is fs c.args.p ∙ c.loop-number.invariant ∙ here_found fs c.args.p i nowhere c.loop-number-test.true (sym c.if-is_same.ensures))

pub loop-number-preserved : goal.loop-number-preserved
loop-number-preserved c =
    let fs = c.args.functions.now in
    let i = c.loop-number.number in
    c.loop-number.invariant ∙ not_here fs c.args.p i nowhere c.loop-number-test.true (sym c.if-is_same.ensures)

pub returns : goal.returns
returns c =
    let fs = c.args.functions.now in
    let i = c.loop-number.number in
    sym (callee_is fs c.args.p ∙ c.loop-number.invariant ∙ ap (λ qs. position_from i qs c.args.p) (drop_all i fs (omega (arith, c.loop-number-test.false))))
