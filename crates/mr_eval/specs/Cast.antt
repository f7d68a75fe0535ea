-- The conversions between integer types, and the operators on one number.
use Rattle.std.specs.Prelude.{ℕ, ◌-◌, ◌^◌, neg_ℤ, bit_xor}
use Rattle.mr_ast.specs.declared.types.IntType.{IntType}
use Rattle.mr_ast.specs.Integers.{bits_of}
use Rattle.mr_eval.specs.Numbers.{value_of, bits_for}

-- the same number in another type, modulo 2 to that type's width
abbrev pub cast_of : IntType → IntType → ℕ → ℕ
cast_of from to a = bits_for to (value_of from a)

-- the number with the other sign, modulo 2 to the width
abbrev pub negate_of : IntType → ℕ → ℕ
negate_of t a = bits_for t (neg_ℤ (value_of t a))

-- each bit of the width flipped: the bits that differ from those of a
abbrev pub invert_of : IntType → ℕ → ℕ
invert_of t a = bit_xor a (2 ^ bits_of t - 1)
