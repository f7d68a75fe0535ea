use Rattle.mr_sched.proofs.Common.{◌≡◌, ◌^◌, take, arith}
use Rattle.std.proofs.lemmas.List.{take_all}
use Rattle.mr_sched.proofs.Numerals.{with_digit, without_digit}
use Rattle.mr_sched.proofs.reading.read_digits.Goals as goal

pub returns-in_err-number : goal.returns-in_err-number
returns-in_err-number c =
    let bad = c.in_err-number.ensures in
    rw c.from_residual.ensures (without_digit c.args.word.now c.loop-digit.digit-index (2 ^ 64) c.loop-digit-test.true (λ h. bad (h.0, omega (arith, h.1, c.loop-digit.invariant.number))))

pub loop-digit-preserved : goal.loop-digit-preserved
loop-digit-preserved c =
    let good = c.in_ok-number.ensures in
    let more = with_digit c.args.word.now c.loop-digit.digit-index c.loop-digit-test.true c.loop-digit.invariant.digits good.0.0 in
    record { digits = more.0; number = omega (arith, good.1, c.loop-digit.invariant.number, more.1); below = omega (arith, good.0.1, good.1) }

pub returns : goal.returns
returns c =
    let whole : take c.loop-digit.digit-index c.args.word.now ≡ c.args.word.now = take_all _ _ c.loop-digit-test.false in
    let digits = rw whole at c.loop-digit.invariant.digits in
    let number = rw whole at c.loop-digit.invariant.number in
    ((digits, omega (arith, number, c.loop-digit.invariant.below)), number)
