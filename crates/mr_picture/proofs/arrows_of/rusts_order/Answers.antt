use Rattle.mr_picture.proofs.Common.{◌≡◌, ℕ, subst, arith, Tracks}
use Rattle.mr_picture.proofs.arrows_of.rusts_order.Goals as goal

pub loop-step-init : goal.loop-step-init
loop-step-init c = c.in_ok-rust.ensures c.args.run.now

pub returns : goal.returns
returns c =
    let all : c.loop-step.step ≡ c.args.count = omega (arith, c.loop-step.auto.step-end, c.loop-step-test.false) in
    subst (λ (n : ℕ). Tracks c.args.run.now n c.loop-step.rust) all c.loop-step.invariant
