use Rattle.mr_eval.proofs.Common.{◌∙◌, ap, ap₂, rules, FitsSigned, int_div, bits_for}
use Rattle.std.proofs.Common.{to_z-of_z}
use Rattle.std.specs.Int.{w128, cast_signed, cast_unsigned}
use Rattle.mr_eval.proofs.Division.{bits_for-quotient}
use Rattle.mr_eval.proofs.arithmetic.quotient_bits.Goals as goal

pub returns-then-signed : goal.returns-then-signed
returns-then-signed c =
    let x = c.signed_number.result in
    let y = c.signed_number-then-signed.result in
    let x_fits : FitsSigned w128 x = search rules in
    let y_fits : FitsSigned w128 y = search rules in
    let quotient_fits : FitsSigned w128 c.wrapping_div-quotient.result = search rules in
    c.bits_of_number.ensures ∙ ap (bits_for c.args.t) (to_z-of_z quotient_fits ∙ c.wrapping_div-quotient.ensures)
    ∙ ap (λ z. bits_for c.args.t (cast_signed w128 (cast_unsigned w128 z))) (ap₂ int_div (to_z-of_z x_fits) (to_z-of_z y_fits))
    ∙ bits_for-quotient c.args.t x y x_fits ∙ ap (bits_for c.args.t) (ap₂ int_div c.signed_number.ensures c.signed_number-then-signed.ensures)
