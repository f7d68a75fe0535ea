-- The accesses of a step, as they stand in the JSON of a run.
use Rattle.std.specs.Prelude.{ℕ, List, map, length, codes, Option, None, Some, slice_get}
use Rattle.std.specs.List.{range_with_len}
use Rattle.serde_json.specs.Data.{Data, null, boolean, number, string, unsigned, array, object, member, no_members}
use Rattle.serde_json.specs.View.{items_of}
use Rattle.mr_base.specs.declared.access.Access.{Access}
use Rattle.mr_base.specs.declared.byte.AllocId.{AllocId}
use Rattle.mr_labels.specs.Table.{found_at}
use Rattle.mr_listing.specs.declared.held.Held.{Held}
use Rattle.mr_listing.specs.declared.held.Held.TheVariants as held
use Rattle.mr_listing.specs.declared.held.StepValues.{StepValues}
use Rattle.mr_listing.specs.Accesses.{own_row}
use Rattle.mr_listing.specs.Held.{held_for}
use Rattle.mr_listing.specs.Seen.{Seen}
use Rattle.mr_json.specs.Parts.{number_data, reached_data}

-- a pointer: its address, where it may reach nothing; else that too, and what holds the address, where that is the
-- allocation that the pointer may reach
abbrev pub pointer_data : Seen → ℕ → Option AllocId → Data
pointer_data s addr None = number (unsigned addr)
pointer_data s addr (Some id) = object
    (member (codes "address") (number (unsigned addr))
    (member (codes "to") (reached_data s.program addr (own_row id (found_at addr s.rows))) no_members))

-- WHAT IS LOADED OR STORED: a number, a pointer, `no value` where a byte is uninitialised, and null where it
-- is not told
abbrev pub value_data : Seen → Held → Data
value_data s (held.Number n) = number_data n
value_data s (held.Pointer p) = pointer_data s p.addr p.prov
value_data s held.Nothing = string (codes "no value")
value_data s held.Untold = null

-- AN ACCESS: where it is and what that reaches, how many bytes it has, whether it stores and whether it is atomic, and
-- what it loaded or stored
abbrev pub access_data : Seen → Held → Access → Data
access_data s h a = object
    (member (codes "address") (number (unsigned a.addr))
    (member (codes "atomic") (boolean a.atomic)
    (member (codes "bytes") (number (unsigned a.len))
    (member (codes "reached") (reached_data s.program a.addr (found_at a.addr s.rows))
    (member (codes "store") (boolean a.store)
    (member (codes "value") (value_data s h) no_members))))))

-- the same of the access at a position, where there is one
abbrev pub access_of : Seen → Option StepValues → ℕ → Option Access → Data
access_of s v at None = null
access_of s v at (Some a) = access_data s (held_for v at a) a

abbrev pub access_at : Seen → Option StepValues → List Access → ℕ → Data
access_at s v accesses at = access_of s v at (slice_get accesses at)

-- THE ACCESSES of a step with these values, in their order
abbrev pub accesses_data : Seen → Option StepValues → List Access → Data
accesses_data s v accesses = array (items_of (map (access_at s v accesses) (range_with_len 0 (length accesses))))
