use Rattle.mr_wf.proofs.Common.{Ok, ◌<◌, length, Bool, ap, sym, arith}
use Rattle.std.proofs.Common.{◌-◌}
use Rattle.mr_wf.proofs.SwitchLaws.{case_unfit}
use Rattle.mr_wf.proofs.blocks.are_int_cases.Goals as goal

-- src/blocks.rt:83:13
pub returns-then-not-is_fitting : goal.returns-then-not-is_fitting
returns-then-not-is_fitting c =
    let inside : c.loop-i.i - 1 < length c.args.cases.now = omega (arith, c.loop-i-test.true, c.loop-i.auto.i) in
    ap (λ (b : Bool). Ok b) (case_unfit c.args.int c.args.cases.now (c.loop-i.i - 1) _ inside (sym c.if-not-is_fitting.ensures))
