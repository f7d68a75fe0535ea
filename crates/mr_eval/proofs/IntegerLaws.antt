-- The numbers that bits mean, the bits of a result, and whether it is a number of its type.
use Rattle.mr_eval.proofs.Common.{◌≡◌, ℕ, ◌-◌, ◌*◌, ◌%◌, ◌^◌, Bool, true, false, cond, ltb, ap, arith, pow_pos, ℤ, pos, ◌*ℤ◌, unsigned_abs, ints, IntType, bits_of, is_signed, value_of, bits_for}
use Rattle.std.specs.Prelude.{◌-ℤ◌}
use Rattle.mr_eval.specs.Numbers.{number_at}
use Rattle.mr_eval.proofs.Residues.{IsCongruent, int_rem_euclid-congruent, congruent_pos, congruent_product}

-- the number that bits mean differs from them by 0 or by 2 to the width
pub number_at-congruent : (s : Bool) (width a : ℕ) → IsCongruent (2 ^ width) (number_at s width a) a
number_at-congruent false width a = record { below = 0; above = 0; same = omega arith }
number_at-congruent true width a = by (ltb a (2 ^ (width - 1)))
  where
    by : (b : Bool) → IsCongruent (2 ^ width) (cond b (pos a) (pos a -ℤ pos (2 ^ width))) a
    by true = record { below = 0; above = 0; same = omega arith }
    by false = record { below = 1; above = 0; same = omega (arith, ints) }

pub value_of-congruent : (t : IntType) (a : ℕ) → IsCongruent (2 ^ bits_of t) (value_of t a) a
value_of-congruent t a = number_at-congruent (is_signed t) (bits_of t) a

pub bits_for-congruent : (t : IntType) (z : ℤ) (n : ℕ) → IsCongruent (2 ^ bits_of t) z n → bits_for t z ≡ n % 2 ^ bits_of t
bits_for-congruent t z n c = ap unsigned_abs (int_rem_euclid-congruent (2 ^ bits_of t) z n (pow_pos (bits_of t)) c)

pub bits_for-product : (t : IntType) (a b : ℕ) → bits_for t (value_of t a *ℤ value_of t b) ≡ (a * b) % 2 ^ bits_of t
bits_for-product t a b =
    bits_for-congruent t _ (a * b) (congruent_product (2 ^ bits_of t) (value_of t a) (value_of t b) a b (value_of-congruent t a) (value_of-congruent t b))

-- a shift to the left
pub bits_for-times_pow : (t : IntType) (a k : ℕ) → bits_for t (value_of t a *ℤ pos (2 ^ k)) ≡ (a * 2 ^ k) % 2 ^ bits_of t
bits_for-times_pow t a k =
    bits_for-congruent t _ (a * 2 ^ k) (congruent_product (2 ^ bits_of t) (value_of t a) (pos (2 ^ k)) a (2 ^ k) (value_of-congruent t a) (congruent_pos (2 ^ bits_of t) (2 ^ k)))
