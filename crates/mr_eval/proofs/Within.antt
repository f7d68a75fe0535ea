-- What the operators give are bits of the type: they are below 2 to its width.
use Rattle.mr_eval.proofs.Common.{◌≡◌, ℕ, ◌-◌, ◌^◌, ◌<◌, Bool, true, false, cond, subst, arith, pow_pos, Result, Ok, Err, ℤ, pos, negsuc, int_div, int_rem, ◌&&◌, int_eq, Reason, Overflow, ZeroDivisor, DivOverflow, ShiftAmount, IntType, bits_of, least_of, ArithOp, ShiftOp, value_of, bits_for, if_quotient_defined, arith_of, overflowing_of, shift_of}
use Rattle.std.proofs.Common.{mod-lt, lt_of_le_of_lt}
use Rattle.std.proofs.lemmas.Nat.{or_lt, xor_lt, and_le_l}
use Rattle.mr_eval.specs.declared.arithmetic.ArithOp.TheVariants.{Add, Sub, Mul, Div, Rem, And, Or, Xor, AddUnchecked, SubUnchecked, MulUnchecked}
use Rattle.mr_eval.specs.declared.shifts.ShiftOp.TheVariants.{Shl, Shr, ShlUnchecked, ShrUnchecked}
use Rattle.mr_eval.specs.Cast.{invert_of}

-- so are those of a cast and of a negation, which are `bits_for` a number
pub bits_for-lt : (t : IntType) (z : ℤ) → bits_for t z < 2 ^ bits_of t
bits_for-lt t (pos n) = mod-lt n (pow_pos (bits_of t))
bits_for-lt t (negsuc n) = omega (arith, pow_pos (bits_of t))

ok_below : (m n r : ℕ) → n < m → ◌≡◌ {A = Result ℕ Reason} (Ok n) (Ok r) → r < m
ok_below m n r h e = let same : n ≡ r = cc in subst (λ k. k < m) same h

test_below : (m n r : ℕ) (b : Bool) (reason : Reason) → n < m → cond b (Ok n) (Err reason) ≡ Ok r → r < m
test_below m n r true reason h e = ok_below m n r h e
test_below m n r false reason h e = cc

if_quotient_defined_below : (m n r : ℕ) (t : IntType) (x y : ℤ) → n < m → if_quotient_defined t x y n ≡ Ok r → r < m
if_quotient_defined_below m n r t x y h e = by (int_eq y (pos 0)) (int_eq x (least_of t) && int_eq y (negsuc 0)) e
  where
    by : (zero_divisor overflow : Bool) → cond zero_divisor (Err ZeroDivisor) (cond overflow (Err DivOverflow) (Ok n)) ≡ Ok r → r < m
    by true o e = cc
    by false true e = cc
    by false false e = ok_below m n r h e

pub arith_of-within : (op : ArithOp) (t : IntType) (a b r : ℕ) → a < 2 ^ bits_of t → b < 2 ^ bits_of t → arith_of op t a b ≡ Ok r → r < 2 ^ bits_of t
arith_of-within Add t a b r h k e = ok_below _ _ r (bits_for-lt t _) e
arith_of-within Sub t a b r h k e = ok_below _ _ r (bits_for-lt t _) e
arith_of-within Mul t a b r h k e = ok_below _ _ r (bits_for-lt t _) e
arith_of-within Div t a b r h k e = if_quotient_defined_below _ _ r t (value_of t a) (value_of t b) (bits_for-lt t (int_div (value_of t a) (value_of t b))) e
arith_of-within Rem t a b r h k e = if_quotient_defined_below _ _ r t (value_of t a) (value_of t b) (bits_for-lt t (int_rem (value_of t a) (value_of t b))) e
arith_of-within And t a b r h k e = ok_below _ _ r (lt_of_le_of_lt (and_le_l a b) h) e
arith_of-within Or t a b r h k e = ok_below _ _ r (or_lt (bits_of t) a b h k) e
arith_of-within Xor t a b r h k e = ok_below _ _ r (xor_lt (bits_of t) a b h k) e
arith_of-within AddUnchecked t a b r h k e = test_below _ _ r _ Overflow (bits_for-lt t _) e
arith_of-within SubUnchecked t a b r h k e = test_below _ _ r _ Overflow (bits_for-lt t _) e
arith_of-within MulUnchecked t a b r h k e = test_below _ _ r _ Overflow (bits_for-lt t _) e

pub overflowing_of-within : (op : ArithOp) (t : IntType) (a b : ℕ) → (overflowing_of op t a b).0 < 2 ^ bits_of t
overflowing_of-within Add t a b = bits_for-lt t _
overflowing_of-within Sub t a b = bits_for-lt t _
overflowing_of-within Mul t a b = bits_for-lt t _
overflowing_of-within _ t a b = pow_pos (bits_of t)

pub shift_of-within : (op : ShiftOp) (t : IntType) (a : ℕ) (by : IntType) (b r : ℕ) → shift_of op t a by b ≡ Ok r → r < 2 ^ bits_of t
shift_of-within Shl t a by b r e = ok_below _ _ r (bits_for-lt t _) e
shift_of-within Shr t a by b r e = ok_below _ _ r (bits_for-lt t _) e
shift_of-within ShlUnchecked t a by b r e = test_below _ _ r _ ShiftAmount (bits_for-lt t _) e
shift_of-within ShrUnchecked t a by b r e = test_below _ _ r _ ShiftAmount (bits_for-lt t _) e

pub invert_of-lt : (t : IntType) (a : ℕ) → a < 2 ^ bits_of t → invert_of t a < 2 ^ bits_of t
invert_of-lt t a h = xor_lt (bits_of t) a (2 ^ bits_of t - 1) h (omega (arith, pow_pos (bits_of t)))
