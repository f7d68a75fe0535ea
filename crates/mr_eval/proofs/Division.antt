-- The quotient of two signed numbers, and divisions that are undefined.
use Rattle.mr_eval.proofs.Common.{◌≡◌, ℕ, zero, suc, ◌-◌, ◌^◌, ◌<◌, ◌≤◌, Bool, true, false, cond, ltb, refl, sym, ◌∙◌, arith, Ok, Err, ℤ, pos, negsuc, neg_ℤ, FitsSigned, unsigned_abs, int_div, ◌&&◌, int_eq, ints, Reason, ZeroDivisor, DivOverflow, IntType, bits_of, least_of, bits_for, if_quotient_defined}
use Rattle.std.proofs.Common.{◌/◌}
use Rattle.std.specs.Int.{cast_signed, cast_unsigned, w128}
use Rattle.std.proofs.Math.Nat.{div-le_self}
use Rattle.mr_eval.proofs.Residues.{IsCongruent}
use Rattle.mr_eval.proofs.IntegerLaws.{bits_for-congruent}
use Rattle.mr_eval.proofs.Widths.{multiple_128}

-- the bits of a number at 128 bits, where its size is at most 2 to 127
congruent_cast_unsigned : (t : IntType) (z : ℤ) → unsigned_abs z ≤ 2 ^ 127 → IsCongruent (2 ^ bits_of t) z (cast_unsigned w128 z)
congruent_cast_unsigned t (pos n) h = record { below = 0; above = 0; same = omega arith }
congruent_cast_unsigned t (negsuc n) h = record { below = 2 ^ (128 - bits_of t); above = 0; same = omega (arith, multiple_128 t) }

congruent_cast_signed : (t : IntType) (n : ℕ) → n < 2 ^ 128 → IsCongruent (2 ^ bits_of t) (cast_signed w128 n) n
congruent_cast_signed t n h = by (ltb n (2 ^ 127)) refl
  where
    by : (b : Bool) → ltb n (2 ^ 127) ≡ b → IsCongruent (2 ^ bits_of t) (cond b (pos n) (negsuc (2 ^ 128 - suc n))) n
    by true e = record { below = 0; above = 0; same = omega arith }
    by false e = record { below = 2 ^ (128 - bits_of t); above = 0; same = omega (arith, multiple_128 t) }

-- 2 to 127 wraps to its negative at 128 bits, which has the same bits
pub bits_for-cast : (t : IntType) (z : ℤ) → unsigned_abs z ≤ 2 ^ 127 → bits_for t (cast_signed w128 (cast_unsigned w128 z)) ≡ bits_for t z
bits_for-cast t z h =
    bits_for-congruent t _ (cast_unsigned w128 z) (congruent_cast_signed t (cast_unsigned w128 z) (small z h))
    ∙ sym (bits_for-congruent t z (cast_unsigned w128 z) (congruent_cast_unsigned t z h))
  where
    small : (z : ℤ) → unsigned_abs z ≤ 2 ^ 127 → cast_unsigned w128 z < 2 ^ 128
    small (pos n) h = omega arith
    small (negsuc n) h = omega arith

size_of_negative : (n : ℕ) → unsigned_abs (neg_ℤ (pos n)) ≡ n
size_of_negative zero = refl
size_of_negative (suc n) = refl

quotient_size : (x y : ℤ) → unsigned_abs (int_div x y) ≤ unsigned_abs x
quotient_size (pos a) (pos b) = div-le_self a b
quotient_size (pos a) (negsuc b) = omega (arith, size_of_negative (a / suc b), div-le_self a (suc b))
quotient_size (negsuc a) (pos b) = omega (arith, size_of_negative (suc a / b), div-le_self (suc a) b)
quotient_size (negsuc a) (negsuc b) = div-le_self (suc a) (suc b)

pub bits_for-quotient : (t : IntType) (x y : ℤ) → FitsSigned w128 x → bits_for t (cast_signed w128 (cast_unsigned w128 (int_div x y))) ≡ bits_for t (int_div x y)
bits_for-quotient t x y f = bits_for-cast t (int_div x y) (omega (arith, ints, quotient_size x y))

-- a division that is undefined is so whatever its answer would be
pub undefined_for_all : {A B : Type 0} (t : IntType) (x y : ℤ) (p : A) (q : B) (e : Reason) → if_quotient_defined t x y p ≡ Err e → if_quotient_defined t x y q ≡ Err e
undefined_for_all {A} {B} t x y p q e h = by (int_eq y (pos 0)) (int_eq x (least_of t) && int_eq y (negsuc 0)) h
  where
    by : (zero_divisor overflow : Bool) → cond zero_divisor (Err ZeroDivisor) (cond overflow (Err DivOverflow) (Ok p)) ≡ Err e → cond zero_divisor (Err ZeroDivisor) (cond overflow (Err DivOverflow) (Ok q)) ≡ Err e
    by true o h = cc
    by false true h = cc
    by false false h = cc
