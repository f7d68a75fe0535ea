use Rattle.mr_sched.proofs.Common.{◌^◌, refl, ◌∙◌}
use Rattle.mr_sched.proofs.Numerals.{number_of-narrow, result_ok-below}
use Rattle.mr_sched.proofs.reading.read_thread.Goals as goal

pub returns-in_err-read_number : goal.returns-in_err-read_number
returns-in_err-read_number c = rw (c.from_residual.ensures, number_of-narrow, ← c.read_number.ensures, c.in_err-read_number.was) refl

pub returns : goal.returns
returns c =
    rw (number_of-narrow, ← c.read_number.ensures, c.in_ok-read_number.was)
    (c.ok.ensures.value ∙ result_ok-below c.try_from.result c.in_ok-read_number.field-0 (2 ^ 32) c.try_from.ensures)
