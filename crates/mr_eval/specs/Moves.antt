-- Pointers that are moved. (MiniRust, lang: pointer operations.)
use Rattle.std.specs.Prelude.{ℕ, ◌+◌, ◌^◌, ◌%◌, ◌&&◌, if◌then◌else◌, ℤ, pos, ◌+ℤ◌, int_le, int_lt, unsigned_abs}
use Rattle.std.specs.Ordering.{int_eq}
use Rattle.mr_base.specs.declared.byte.Pointer.{Pointer}
use Rattle.mr_base.specs.declared.reason.Reason.TheVariants.{OffsetOverflow}
use Rattle.mr_base.specs.Stops.{plainly}
use Rattle.mr_base.specs.Script.{Done, Undefined, Ask}
use Rattle.mr_eval.specs.Reads.{Check, ReadScript}

-- the pointer at another address, with its provenance
abbrev pub at_address : Pointer → ℕ → Pointer
at_address p addr = record { addr = addr; prov = p.prov }

-- so many bytes behind, around the end of the address space
abbrev pub behind : Pointer → ℕ → Pointer
behind p n = at_address p ((p.addr + n) % 2 ^ 64)

-- the lower of the addresses before and after a move
abbrev pub lower : Pointer → ℤ → ℤ → Pointer
lower p n to = if int_lt n (pos 0) then at_address p (unsigned_abs to) else p

-- the pointer moved by n bytes to where it comes; all bytes between are to be in bounds of its allocation
abbrev pub moved_to : Pointer → ℤ → ℤ → ReadScript Pointer
moved_to p n to =
    if int_le (pos 0) to && int_lt to (pos (2 ^ 64))
    then Ask (Check (lower p n to) (unsigned_abs n)) (λ _. Done (at_address p (unsigned_abs to)))
    else Undefined (plainly OffsetOverflow)

-- A pointer moved in bounds: the bytes between the two addresses lie in its allocation.
abbrev pub moved : Pointer → ℤ → ReadScript Pointer
moved p n = if int_eq n (pos 0) then Done p else moved_to p n (pos p.addr +ℤ n)
