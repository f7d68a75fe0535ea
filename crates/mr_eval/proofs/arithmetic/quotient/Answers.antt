use Rattle.mr_eval.proofs.Common.{◌∙◌, sym, ap, Err, int_div, err_from_is_err_and, value_of, bits_for}
use Rattle.mr_eval.proofs.Division.{undefined_for_all}
use Rattle.mr_eval.proofs.arithmetic.quotient.Goals as goal

pub returns-in_err-check_division : goal.returns-in_err-check_division
returns-in_err-check_division c =
    let x = value_of c.args.t c.args.a in
    let y = value_of c.args.t c.args.b in
    let err = err_from_is_err_and c.from_residual.result c.from_residual.ensures.1 in
    let undefined = undefined_for_all c.args.t x y tt (bits_for c.args.t (int_div x y)) _ (sym c.check_division.ensures ∙ c.in_err-check_division.was) in
    err.1 ∙ ap Err err.2 ∙ sym undefined
