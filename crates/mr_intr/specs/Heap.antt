-- Why an allocation on the heap is refused.
use Rattle.std.specs.Prelude.{ℕ, ◌-◌, ◌^◌, Option, None, Some, if◌then◌else◌, nat_lt}
use Rattle.mr_base.specs.declared.reason.Reason.{Reason}
use Rattle.mr_base.specs.declared.reason.Reason.TheVariants.{BadAlign, SizeTooLarge}
use Rattle.mr_intr.specs.Operations.{is_power_of_two}

-- 125 above 2^63 - 1, then 126 where the alignment is no power of two
abbrev pub allocation_fault : ℕ → ℕ → Option Reason
allocation_fault size align =
    if nat_lt (2 ^ 63 - 1) size then Some SizeTooLarge else (if is_power_of_two align then None else Some BadAlign)
