use Rattle.mr_value.proofs.Common.{◌≡◌, ◌-◌, ◌++◌, length, take, little_endian}
use Rattle.mr_value.proofs.scalar_bytes.lowest_bytes.Given as goal

abbrev pub invariant-loop-i : goal.invariant-loop-i
invariant-loop-i l = (take l.i l.all ++ little_endian (l.count - l.i) l.rest ≡ little_endian l.count l.number) × (length l.all ≡ 16)
