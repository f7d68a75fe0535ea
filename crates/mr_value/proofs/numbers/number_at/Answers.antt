use Rattle.mr_value.proofs.Common.{◌≡◌, ◌*◌, ◌^◌, ◌<◌, ℕ, length, drop, ap, subst, arith, length-take, length-drop, bytes_of_pieces}
use Rattle.mr_value.proofs.SpelledLaws.{number_fits}
use Rattle.mr_value.proofs.numbers.number_at.Goals as goal

pub returns-in-Some-clause-fits : goal.returns-in-Some-clause-fits
returns-in-Some-clause-fits c =
    let bytes = bytes_of_pieces c.args.v.now in
    let lent = bytes_of_pieces c.part.result in
    let len : length (bytes_of_pieces c.part.result) ≡ c.args.len =
    omega (arith, ap length c.part.ensures.same, length-take c.args.len (drop c.args.at bytes), length-drop c.args.at bytes, c.requires.inside) in
    let P : ℕ → Type 0 = λ n. c.in-Some.spelled.number < 2 ^ (8 * n) in
    subst P len (number_fits lent c.in-Some.spelled.number c.in-Some.ensures.0)
