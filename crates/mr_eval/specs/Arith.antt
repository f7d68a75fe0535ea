-- The arithmetic operators: the exact result among the integers, and then its bits or the reason why there are none.
use Rattle.std.specs.Prelude.{◌≡◌, ◌⊎◌, ℕ, Bool, false, not, ◌&&◌, if◌then◌else◌, ℤ, pos, negsuc, ◌+ℤ◌, ◌-ℤ◌, ◌*ℤ◌}
use Rattle.std.specs.Prelude.{int_div, int_rem, bit_and, bit_or, bit_xor, Result, Ok, Err}
use Rattle.std.specs.Ordering.{int_eq}
use Rattle.mr_base.specs.declared.reason.Reason.{Reason}
use Rattle.mr_base.specs.declared.reason.Reason.TheVariants.{Overflow, ZeroDivisor, DivOverflow}
use Rattle.mr_ast.specs.declared.types.IntType.{IntType}
use Rattle.mr_eval.specs.declared.arithmetic.ArithOp.{ArithOp}
use Rattle.mr_eval.specs.declared.arithmetic.ArithOp.TheVariants.{Add, Sub, Mul, Div, Rem, And, Or, Xor, AddUnchecked}
use Rattle.mr_eval.specs.declared.arithmetic.ArithOp.TheVariants.{SubUnchecked, MulUnchecked}
use Rattle.mr_eval.specs.Numbers.{value_of, bits_for}
use Rattle.mr_ast.specs.Integers.{least_of, fits}

-- the bits of an exact result, which is undefined where it isn't a number of the type
abbrev pub unless_overflow : IntType → ℤ → Result ℕ Reason
unless_overflow t z = if fits t z then Ok (bits_for t z) else Err Overflow

-- the bits of an exact result, and whether it isn't a number of the type
abbrev pub with_overflow : IntType → ℤ → ℕ × Bool
with_overflow t z = (bits_for t z, not (fits t z))

-- an answer of the division of x by y, which is undefined by 0, and for the least number of a signed type by -1
abbrev pub if_quotient_defined : {A : Type 0} → IntType → ℤ → ℤ → A → Result A Reason
if_quotient_defined t x y answer =
    if int_eq y (pos 0) then Err ZeroDivisor
    else (if int_eq x (least_of t) && int_eq y (negsuc 0) then Err DivOverflow else Ok answer)

-- what an operator gives of two numbers' bits; division rounds toward zero, and a remainder has the dividend's sign
abbrev pub arith_of : ArithOp → IntType → ℕ → ℕ → Result ℕ Reason
arith_of Add t a b = Ok (bits_for t (value_of t a +ℤ value_of t b))
arith_of Sub t a b = Ok (bits_for t (value_of t a -ℤ value_of t b))
arith_of Mul t a b = Ok (bits_for t (value_of t a *ℤ value_of t b))
arith_of Div t a b =
    if_quotient_defined t (value_of t a) (value_of t b) (bits_for t (int_div (value_of t a) (value_of t b)))
arith_of Rem t a b =
    if_quotient_defined t (value_of t a) (value_of t b) (bits_for t (int_rem (value_of t a) (value_of t b)))
arith_of And t a b = Ok (bit_and a b)
arith_of Or t a b = Ok (bit_or a b)
arith_of Xor t a b = Ok (bit_xor a b)
arith_of AddUnchecked t a b = unless_overflow t (value_of t a +ℤ value_of t b)
arith_of SubUnchecked t a b = unless_overflow t (value_of t a -ℤ value_of t b)
arith_of MulUnchecked t a b = unless_overflow t (value_of t a *ℤ value_of t b)

-- the operators that also have a form that gives the wrapped result and whether it overflowed
abbrev pub HasOverflowing : ArithOp → Type 0
HasOverflowing op = (op ≡ Add) ⊎ (op ≡ Sub) ⊎ (op ≡ Mul)

-- what that form gives; the other operators have none
abbrev pub overflowing_of : ArithOp → IntType → ℕ → ℕ → ℕ × Bool
overflowing_of Add t a b = with_overflow t (value_of t a +ℤ value_of t b)
overflowing_of Sub t a b = with_overflow t (value_of t a -ℤ value_of t b)
overflowing_of Mul t a b = with_overflow t (value_of t a *ℤ value_of t b)
overflowing_of _ t a b = (0, false)
