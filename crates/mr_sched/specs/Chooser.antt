-- Choices from a number: threads and waiters among candidates, and addresses.
use Rattle.std.specs.Prelude.{ℕ, ◌+◌, ◌-◌, ◌*◌, ◌/◌, ◌%◌, ◌^◌, Bool, List, length, nat_lt, Option, None, Some}
use Rattle.std.specs.Prelude.{if◌then◌else◌, slice_index_or}
use Rattle.mr_sched.specs.declared.chooser.Chooser.{Chooser}

-- what a chooser begins with: the number, and the first address that it may find
abbrev pub first_chooser : ℕ → Chooser
first_chooser number = record { number = number; next = 65536 }

-- ---- draws

-- the number behind a draw
abbrev pub drawn : ℕ → ℕ
drawn number = (number * 6364136223846793005 + 1442695040888963407) % 2 ^ 64

-- the position that a drawn number stands for, of so many
abbrev pub position_in : ℕ → ℕ → ℕ
position_in number count = (number / 2 ^ 33) % count

-- the chooser behind a draw, also where there is one candidate alone
abbrev pub behind_draw : Chooser → Chooser
behind_draw c = record c { number = drawn c.number }

-- the candidate at the drawn position
abbrev pub drawn_from : Chooser → List ℕ → ℕ
drawn_from c candidates = slice_index_or candidates (position_in (drawn c.number) (length candidates)) 0

-- ---- addresses

-- the first multiple of the alignment from an address on
abbrev pub aligned_from : ℕ → ℕ → ℕ
aligned_from next align = next + (align - next % align) % align

-- the address behind so many bytes, and behind one where there is none
abbrev pub behind_bytes : ℕ → ℕ → ℕ
behind_bytes addr size = addr + (if nat_lt 0 size then size else 1)

-- whether what is placed ends before the last address or at it
abbrev pub has_address : ℕ → ℕ → ℕ → Bool
has_address next size align = nat_lt (behind_bytes (aligned_from next align) size) (2 ^ 64)

-- the address that is found, if one is
abbrev pub address_from : ℕ → ℕ → ℕ → Option ℕ
address_from next size align = if has_address next size align then Some (aligned_from next align) else None

-- where the next one is looked for
abbrev pub next_from : ℕ → ℕ → ℕ → ℕ
next_from next size align = if has_address next size align then behind_bytes (aligned_from next align) size else next

-- the chooser behind an address
abbrev pub behind_address : Chooser → ℕ → ℕ → Chooser
behind_address c size align = record c { next = next_from c.next size align }
