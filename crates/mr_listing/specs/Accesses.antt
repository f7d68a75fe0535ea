-- The accesses of a step, as they are written: by the names of what they reach, and what they loaded or stored.
use Rattle.std.specs.Prelude.{ℕ, ◌-◌, ◌==◌, if◌then◌else◌, List, [], ◌++◌, codes, decimal, flat_map, length, Option}
use Rattle.std.specs.Prelude.{None, Some, slice_get}
use Rattle.std.specs.List.{range_with_len}
use Rattle.mr_ast.specs.declared.program.Program.{Program}
use Rattle.mr_base.specs.Identities.{same_id}
use Rattle.mr_base.specs.declared.access.Access.{Access}
use Rattle.mr_base.specs.declared.byte.AllocId.{AllocId}
use Rattle.mr_base.specs.declared.byte.Pointer.{Pointer}
use Rattle.mr_labels.specs.declared.step.Stand.{Stand}
use Rattle.mr_labels.specs.declared.rows.Allocation.{Allocation}
use Rattle.mr_labels.specs.Table.{found_at}
use Rattle.mr_labels.specs.Words.{name_text}
use Rattle.mr_listing.specs.declared.held.Held.{Held}
use Rattle.mr_listing.specs.declared.held.Held.TheVariants as held
use Rattle.mr_listing.specs.declared.held.StepValues.{StepValues}
use Rattle.mr_listing.specs.Held.{held_for}
use Rattle.mr_listing.specs.Seen.{Seen}

-- what an access is called
abbrev pub access_word : Access → List ℕ
access_word a =
    if a.atomic then (if a.store then codes "atomic store " else codes "atomic load ")
    else (if a.store then codes "store " else codes "load ")

-- an address within an allocation, by how far behind its first byte it lies
abbrev pub held_text : Program → Option Stand → ℕ → Allocation → List ℕ
held_text p here addr row = name_text p here (addr - row.start) row.name

-- what an address is called: by the allocation that holds it, or by its number where none does
abbrev pub reached_text : Program → Option Stand → ℕ → Option Allocation → List ℕ
reached_text p here addr None = codes "address " ++ decimal addr
reached_text p here addr (Some row) = held_text p here addr row

abbrev pub bytes_text : ℕ → List ℕ
bytes_text count = decimal count ++ (if count == 1 then codes " byte" else codes " bytes")

-- ---- what is loaded or stored

-- an allocation, where it has an identity
abbrev pub own_row : AllocId → Option Allocation → Option Allocation
own_row id None = None
own_row id (Some row) = if same_id id row.id then Some row else None

-- an address to which a pointer points: what holds it, where that is the allocation that the pointer may reach; its
-- number, where it may reach nothing
abbrev pub pointing_text : Seen → Option Stand → ℕ → Option AllocId → List ℕ
pointing_text s here addr None = decimal addr
pointing_text s here addr (Some id) = reached_text s.program here addr (own_row id (found_at addr s.rows))

abbrev pub pointer_text : Seen → Option Stand → Pointer → List ℕ
pointer_text s here p = pointing_text s here p.addr p.prov

-- ` = 7`, ` = number+2`, ` = no value`; nothing where it is not told
abbrev pub value_text : Seen → Option Stand → Held → List ℕ
value_text s here (held.Number n) = codes " = " ++ decimal n
value_text s here (held.Pointer p) = codes " = " ++ pointer_text s here p
value_text s here held.Nothing = codes " = no value"
value_text s here held.Untold = []

-- ---- the lines

-- THE LINE OF AN ACCESS: whether it loads or stores, the name of what it reaches, what it loaded or stored, and how
-- many bytes it has: `load counter = 0, 4 bytes`
abbrev pub access_line : Seen → Option Stand → Held → Access → List ℕ
access_line s here h a =
    codes "        " ++ access_word a ++ reached_text s.program here a.addr (found_at a.addr s.rows)
    ++ value_text s here h ++ codes ", " ++ bytes_text a.len ++ codes "\n"

-- the same of the access at a position, where there is one
abbrev pub line_of : Seen → Option Stand → Option StepValues → ℕ → Option Access → List ℕ
line_of s here v at None = []
line_of s here v at (Some a) = access_line s here (held_for v at a) a

abbrev pub line_at : Seen → Option Stand → Option StepValues → List Access → ℕ → List ℕ
line_at s here v accesses at = line_of s here v at (slice_get accesses at)

-- THE LINES OF THE ACCESSES of a step with these values, whose thread stood here
abbrev pub accesses_text : Seen → Option Stand → Option StepValues → List Access → List ℕ
accesses_text s here v accesses = flat_map (line_at s here v accesses) (range_with_len 0 (length accesses))
