-- The reasons of operators speak of no bytes.
use Rattle.mr_eval.proofs.Common.{◌≡◌, ℕ, Bool, true, false, Result, Ok, Err, refl, subst, ap, ◌&&◌, ℤ, pos, negsuc, if◌then◌else◌, int_eq, least_of, IntType, Done, Undefined, ◌>>=◌, plainly, speaks, Reason, DivOverflow, Overflow, ShiftAmount, ZeroDivisor, ArithOp, ShiftOp, arith_of, if_quotient_defined, bits_for, value_of, shift_of, Val, Val-F, like, or_reason}
use Rattle.mr_ast.specs.Integers.{fits}
use Rattle.mr_eval.specs.declared.arithmetic.ArithOp.TheVariants.{Add, AddUnchecked, And, Div, Mul, MulUnchecked, Or, Rem, Sub, SubUnchecked, Xor}
use Rattle.mr_eval.specs.declared.shifts.ShiftOp.TheVariants.{Shl, ShlUnchecked, Shr, ShrUnchecked}
use Rattle.mr_eval.specs.Arith.{unless_overflow}
use Rattle.mr_eval.specs.Shift.{is_amount}
use Rattle.mr_eval.specs.Operators.{arith_like, shift_like}
use Rattle.mr_value.specs.declared.val.Val.TheVariants as val

-- a result without a reason that speaks of bytes
abbrev pub IsOwnResult : {X : Type 0} → Result X Reason → Type 0
IsOwnResult (Ok x) = Unit {0}
IsOwnResult (Err r) = speaks r ≡ false

quotient_own : (t : IntType) (x y : ℤ) (n : ℕ) → IsOwnResult (if_quotient_defined t x y n)
quotient_own t x y n = by (int_eq y (pos 0)) (int_eq x (least_of t) && int_eq y (negsuc 0))
  where
    by : (none over : Bool) → IsOwnResult {X = ℕ} (if none then Err ZeroDivisor else (if over then Err DivOverflow else Ok n))
    by true over = refl
    by false true = refl
    by false false = tt

overflow_own : (t : IntType) (z : ℤ) → IsOwnResult (unless_overflow t z)
overflow_own t z = by (fits t z)
  where
    by : (b : Bool) → IsOwnResult {X = ℕ} (if b then Ok (bits_for t z) else Err Overflow)
    by true = tt
    by false = refl

arith_own : (op : ArithOp) (t : IntType) (a b : ℕ) → IsOwnResult (arith_of op t a b)
arith_own Add t a b = tt
arith_own Sub t a b = tt
arith_own Mul t a b = tt
arith_own Div t a b = quotient_own t (value_of t a) (value_of t b) _
arith_own Rem t a b = quotient_own t (value_of t a) (value_of t b) _
arith_own And t a b = tt
arith_own Or t a b = tt
arith_own Xor t a b = tt
arith_own AddUnchecked t a b = overflow_own t _
arith_own SubUnchecked t a b = overflow_own t _
arith_own MulUnchecked t a b = overflow_own t _

amount_own : (b : Bool) (n : ℕ) → IsOwnResult {X = ℕ} (if b then Ok n else Err ShiftAmount)
amount_own true n = tt
amount_own false n = refl

shift_own : (op : ShiftOp) (t : IntType) (a : ℕ) (by : IntType) (b : ℕ) → IsOwnResult (shift_of op t a by b)
shift_own Shl t a by b = tt
shift_own Shr t a by b = tt
shift_own ShlUnchecked t a by b = amount_own (is_amount t by b) _
shift_own ShrUnchecked t a by b = amount_own (is_amount t by b) _

-- ---- operators on numbers that stop

pub arith_stops : (op : ArithOp) (t : IntType) (a b : ℕ) (v : Val-F Val) (r : Reason) → arith_of op t a b ≡ Err r
    → (arith_like op t a b v ≡ Undefined (plainly r)) × (speaks r ≡ false)
arith_stops op t a b v r is =
    (ap (λ (answer : Result ℕ Reason). or_reason answer >>= like v) is, subst IsOwnResult is (arith_own op t a b))

pub shift_stops : (op : ShiftOp) (t : IntType) (a : ℕ) (by : IntType) (b : ℕ) (r : Reason) → shift_of op t a by b ≡ Err r
    → (shift_like op t a by b ≡ Undefined (plainly r)) × (speaks r ≡ false)
shift_stops op t a by b r is =
    (ap (λ (answer : Result ℕ Reason). or_reason answer >>= (λ bits. Done (val.Int bits))) is, subst IsOwnResult is (shift_own op t a by b))
