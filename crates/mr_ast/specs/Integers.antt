-- The integer types: how wide they are, whether they have a sign, and which numbers are theirs.
use Rattle.std.specs.Prelude.{ℕ, ◌-◌, ◌*◌, ◌^◌, Bool, true, false, not, ◌&&◌, if◌then◌else◌, nat_lt, nat_le, ℤ, pos}
use Rattle.std.specs.Prelude.{neg_ℤ, int_le}
use Rattle.mr_ast.specs.declared.types.IntType.{IntType}
use Rattle.mr_ast.specs.declared.types.IntType.TheVariants.{U8, U16, U32, U64, U128, I8, I16, I32, I64, I128}
use Rattle.mr_ast.specs.declared.types.Num.{Num}

-- how many bits an integer has
abbrev pub bits_of : IntType → ℕ
bits_of U8 = 8
bits_of U16 = 16
bits_of U32 = 32
bits_of U64 = 64
bits_of U128 = 128
bits_of I8 = 8
bits_of I16 = 16
bits_of I32 = 32
bits_of I64 = 64
bits_of I128 = 128

-- how many bytes an integer has
abbrev pub int_size : IntType → ℕ
int_size U8 = 1
int_size U16 = 2
int_size U32 = 4
int_size U64 = 8
int_size U128 = 16
int_size I8 = 1
int_size I16 = 2
int_size I32 = 4
int_size I64 = 8
int_size I128 = 16

-- whether an integer has a sign
abbrev pub is_signed : IntType → Bool
is_signed I8 = true
is_signed I16 = true
is_signed I32 = true
is_signed I64 = true
is_signed I128 = true
is_signed _ = false

-- the least number of an integer type
abbrev pub least_of : IntType → ℤ
least_of t = if is_signed t then neg_ℤ (pos (2 ^ (bits_of t - 1))) else pos 0

-- the greatest number of an integer type
abbrev pub greatest_of : IntType → ℤ
greatest_of t = if is_signed t then pos (2 ^ (bits_of t - 1) - 1) else pos (2 ^ bits_of t - 1)

-- whether the number is one of the type's
abbrev pub fits : IntType → ℤ → Bool
fits t z = int_le (least_of t) z && int_le z (greatest_of t)

-- a written number is one of the integer's; minus 0 isn't written
abbrev pub is_fitting : IntType → Num → Bool
is_fitting i n =
    if is_signed i then (if n.neg then nat_lt 0 n.mag && nat_le n.mag (2 ^ (8 * int_size i - 1))
    else nat_lt n.mag (2 ^ (8 * int_size i - 1)))
    else ((not n.neg) && nat_lt n.mag (2 ^ (8 * int_size i)))
