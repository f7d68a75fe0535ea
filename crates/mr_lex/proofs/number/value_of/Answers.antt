use Rattle.mr_lex.proofs.Common.{arith}
use Rattle.std.proofs.lemmas.Grind.{common_steps}
use Rattle.mr_lex.proofs.NumberLaws.{number_of_more}
use Rattle.mr_lex.proofs.number.value_of.Goals as goal

pub returns-in_err-checked_mul : goal.returns-in_err-checked_mul
returns-in_err-checked_mul c =
    let more = number_of_more c.args.digits.now c.loop-digit.digit-index c.loop-digit-test.true in
    grind (arith, common_steps)

pub returns-in_err-value : goal.returns-in_err-value
returns-in_err-value c =
    let more = number_of_more c.args.digits.now c.loop-digit.digit-index c.loop-digit-test.true in
    grind (arith, common_steps)
