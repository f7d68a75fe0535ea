-- The alignment of a type that breaks no rule is a power of two.
use Rattle.mr_frame.proofs.Common.{◌≡◌, ℕ, true, nat_le, ◌==◌, and_parts, Ty, align_of, TypeOk}
use Rattle.std.specs.Prelude.{count_ones}
use Rattle.mr_layout.specs.Rules.{is_align}
use Rattle.mr_layout.proofs.Aligned.{type_ok_aligned}
use Rattle.mr_mem.specs.Memory.{IsPowerOfTwo}
use Rattle.mr_mem.proofs.Powers.{one_bit_power}

pub align_power : (n : ℕ) → is_align n ≡ true → IsPowerOfTwo n
align_power n e = one_bit_power n (and_parts (count_ones n == 1) (nat_le n 4096) e).0

pub type_ok_power : (t : Ty) → TypeOk t → IsPowerOfTwo (align_of t)
type_ok_power t ok = align_power (align_of t) (type_ok_aligned t ok).power
