use Rattle.mr_sched.proofs.Common.{◌≡◌, ◌^◌, length, get_or, refl, sym, arith, inl, inr, cases_lt, eqb-true, eqb-false, false≢true}
use Rattle.mr_sched.proofs.Numerals.{number_of-other, number_of-digits}
use Rattle.mr_sched.proofs.reading.read_number.Goals as goal
use Rattle.mr_sched.proofs.reading.read_number.Goals.{then-is_empty-via-then-is_empty, then-is_empty-via-else-is_empty+then-has_leading_zero}

pub returns-then-is_empty : goal.returns-then-is_empty
returns-then-is_empty c =
    sym
    (number_of-other (2 ^ 64) c.args.word.now
    (λ h.
    elim c.then-is_empty.branch [
      | then-is_empty-via-then-is_empty w ↦ omega (arith, h.some, eqb-true (length c.args.word.now) 0 (sym w.if-is_empty.ensures))
      | then-is_empty-via-else-is_empty+then-has_leading_zero w ↦ let zero = w.if-has_leading_zero.ensures.0 refl in omega (arith, zero.0, h.lead zero.1)
    ]))

pub returns : goal.returns
returns c =
    let some = eqb-false (length c.args.word.now) 0 (sym c.if-is_empty.ensures) in
    let lead : get_or c.args.word.now 0 0 ≡ 48 → length c.args.word.now ≡ 1 =
    λ e. elim (cases_lt 1 (length c.args.word.now)) [
      | inl more ↦ absurd (false≢true (c.if-has_leading_zero.ensures.1 (more, e)))
      | inr few ↦ omega arith
    ] in
    number_of-digits (2 ^ 64) c.args.word.now c.read_digits.result (omega arith) lead c.read_digits.ensures
