-- The numbers that digits spell.
use Rattle.std.specs.Prelude.{◌≡◌, ℕ, ◌+◌, ◌-◌, ◌*◌, ◌^◌, ◌<◌, List, length, slice_index}
use Rattle.std.specs.List.{fold}

-- the value of decimal digits, the highest first
abbrev pub number_of : List ℕ → ℕ
number_of digits = fold (λ n digit. n * 10 + (digit - 48)) 0 digits

-- digits that a text may hold: a number that begins with 0 has no other digit, and the value has at most 128 bits
pub record IsFineNumber (digits : List ℕ) : Type 0 where
  pub plain : slice_index digits 0 ≡ 48 → length digits ≡ 1
  pub small : number_of digits < 2 ^ 128
