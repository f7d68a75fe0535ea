-- The shifts: a number times a power of two, or divided by one and rounded down.
use Rattle.std.specs.Prelude.{ℕ, ◌^◌, Bool, ◌&&◌, if◌then◌else◌, pos, ◌*ℤ◌, int_lt, int_le, unsigned_abs, Result, Ok}
use Rattle.std.specs.Prelude.{Err}
use Rattle.std.specs.Int.{int_div_euclid, int_rem_euclid}
use Rattle.mr_base.specs.declared.reason.Reason.{Reason}
use Rattle.mr_base.specs.declared.reason.Reason.TheVariants.{ShiftAmount}
use Rattle.mr_ast.specs.declared.types.IntType.{IntType}
use Rattle.mr_ast.specs.Integers.{bits_of}
use Rattle.mr_eval.specs.declared.shifts.ShiftOp.{ShiftOp}
use Rattle.mr_eval.specs.declared.shifts.ShiftOp.TheVariants.{Shl, Shr, ShlUnchecked, ShrUnchecked}
use Rattle.mr_eval.specs.Numbers.{value_of, bits_for}

-- by how many bits a number of type t is shifted: what the bits b of the other type mean, modulo the width of t, from 0
abbrev pub amount_of : IntType → IntType → ℕ → ℕ
amount_of t by b = unsigned_abs (int_rem_euclid (value_of by b) (pos (bits_of t)))

-- whether that number is from 0 to the width less one
abbrev pub is_amount : IntType → IntType → ℕ → Bool
is_amount t by b = int_le (pos 0) (value_of by b) && int_lt (value_of by b) (pos (bits_of t))

-- what lies above the width is dropped
abbrev pub shifted_left : IntType → ℕ → ℕ → ℕ
shifted_left t a amount = bits_for t (value_of t a *ℤ pos (2 ^ amount))

-- rounded down, so that a signed number keeps its sign
abbrev pub shifted_right : IntType → ℕ → ℕ → ℕ
shifted_right t a amount = bits_for t (int_div_euclid (value_of t a) (pos (2 ^ amount)))

-- what a shift of the bits a gives
abbrev pub shift_of : ShiftOp → IntType → ℕ → IntType → ℕ → Result ℕ Reason
shift_of Shl t a by b = Ok (shifted_left t a (amount_of t by b))
shift_of Shr t a by b = Ok (shifted_right t a (amount_of t by b))
shift_of ShlUnchecked t a by b = if is_amount t by b then Ok (shifted_left t a (amount_of t by b)) else Err ShiftAmount
shift_of ShrUnchecked t a by b = if is_amount t by b then Ok (shifted_right t a (amount_of t by b)) else Err ShiftAmount
