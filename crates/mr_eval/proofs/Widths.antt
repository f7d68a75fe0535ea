-- The widths of the integer types, and what lies above them in 128 bits.
use Rattle.mr_eval.proofs.Common.{◌≡◌, ℕ, ◌+◌, ◌-◌, ◌*◌, ◌%◌, ◌^◌, refl, sym, ap, ◌∙◌, IntType, U8, U16, U32, U64, U128, I8, I16, I32, I64, I128, bits_of}
use Rattle.std.proofs.Common.{pow-add}
use Rattle.std.proofs.Math.Pow.{mod-mod-pow}

pub spare_and_width : (t : IntType) → (128 - bits_of t) + bits_of t ≡ 128
spare_and_width U8 = refl
spare_and_width U16 = refl
spare_and_width U32 = refl
spare_and_width U64 = refl
spare_and_width U128 = refl
spare_and_width I8 = refl
spare_and_width I16 = refl
spare_and_width I32 = refl
spare_and_width I64 = refl
spare_and_width I128 = refl

-- to cut to 128 bits first changes nothing
pub mod-128 : (t : IntType) (n : ℕ) → n % 2 ^ 128 % 2 ^ bits_of t ≡ n % 2 ^ bits_of t
mod-128 t n = ap (λ k. n % 2 ^ k % 2 ^ bits_of t) (sym (spare_and_width t)) ∙ mod-mod-pow n (128 - bits_of t) (bits_of t)

-- 128 bits are a multiple of the width's
pub multiple_128 : (t : IntType) → 2 ^ (128 - bits_of t) * 2 ^ bits_of t ≡ 2 ^ 128
multiple_128 t = sym (pow-add 2 (128 - bits_of t) (bits_of t)) ∙ ap (λ k. 2 ^ k) (spare_and_width t)
