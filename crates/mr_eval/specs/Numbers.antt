-- Integers as bits in two's complement: the number that the bits of a type mean, and the bits that a number has in a
-- type.
use Rattle.std.specs.Prelude.{ℕ, ◌-◌, ◌^◌, Bool, true, false, ◌&&◌, if◌then◌else◌, nat_lt, ℤ, pos, ◌-ℤ◌, neg_ℤ, int_le}
use Rattle.std.specs.Prelude.{unsigned_abs}
use Rattle.std.specs.Int.{int_rem_euclid}
use Rattle.mr_ast.specs.declared.types.IntType.{IntType}
use Rattle.mr_ast.specs.Integers.{bits_of, is_signed}

-- the number that a type of this width means by the bits: in a signed type the highest bit counts as its negative
abbrev pub number_at : Bool → ℕ → ℕ → ℤ
number_at false width a = pos a
number_at true width a = if nat_lt a (2 ^ (width - 1)) then pos a else pos a -ℤ pos (2 ^ width)

-- the number that the bits of a type mean
abbrev pub value_of : IntType → ℕ → ℤ
value_of t a = number_at (is_signed t) (bits_of t) a

-- the bits of a number in a type: the number modulo 2 to the width, from 0
abbrev pub bits_for : IntType → ℤ → ℕ
bits_for t z = unsigned_abs (int_rem_euclid z (pos (2 ^ bits_of t)))
