-- The allocations of a run: what each of them is called, and which addresses it has.
use Rattle.std.specs.Prelude.{ℕ, ◌+◌, ◌&&◌, Bool, not, nat_lt, if◌then◌else◌, List, [], ◌∷◌, map, flat_map}
use Rattle.std.specs.Prelude.{length}
use Rattle.std.specs.Prelude.{Option, None, Some, slice_get, option_to_list}
use Rattle.std.specs.List.{range_with_len}
use Rattle.mr_ast.specs.declared.program.Program.{Program}
use Rattle.mr_base.specs.Identities.{same_id}
use Rattle.mr_base.specs.declared.byte.AllocId.{AllocId}
use Rattle.mr_sched.specs.declared.schedule.Ask.{Ask}
use Rattle.mr_sched.specs.declared.schedule.Ask.TheVariants.{Address, Waiter}
use Rattle.mr_labels.specs.declared.names.Name.{Name}
use Rattle.mr_labels.specs.declared.step.ToldStep.{ToldStep}
use Rattle.mr_labels.specs.declared.rows.Allocation.{Allocation}
use Rattle.mr_labels.specs.Names.{made_names, start_names}

-- the size for which an address was asked
abbrev pub asked_size : Ask → Option ℕ
asked_size (Address size align) = Some size
asked_size (Waiter lock) = None

-- the allocation of a name and an identity with this size and this first address
abbrev pub made_row : Name → AllocId → Option ℕ → Option ℕ → Option Allocation
made_row name id None start = None
made_row name id (Some size) None = None
made_row name id (Some size) (Some start) = Some (record { id = id; start = start; size = size; name = name })

-- the allocation of a name with the identity that it got, the size that was asked for and the address that was picked
abbrev pub row_of : Option Name → Option AllocId → Option Ask → Option ℕ → Option Allocation
row_of None id ask pick = None
row_of (Some name) None ask pick = None
row_of (Some name) (Some id) None pick = None
row_of (Some name) (Some id) (Some ask) pick = made_row name id (asked_size ask) pick

-- the name of this number goes with the identity, the ask and the pick of this number
abbrev pub row_at : List Name → List AllocId → List Ask → List ℕ → ℕ → List Allocation
row_at names ids asks picks i =
    option_to_list (row_of (slice_get names i) (slice_get ids i) (slice_get asks i) (slice_get picks i))

-- the allocations of these names
abbrev pub made_rows : List Name → List AllocId → List Ask → List ℕ → List Allocation
made_rows names ids asks picks = flat_map (row_at names ids asks picks) (range_with_len 0 (length names))

-- thread 0 makes the allocations of the start
abbrev pub start_id : ℕ → AllocId
start_id i = record { thread = 0; count = i }

-- THE ALLOCATIONS OF THE START, which asked for addresses and picked them, in the order in which they are made
abbrev pub start_rows : Program → List Ask → List ℕ → List Allocation
start_rows p asks picks =
    made_rows (start_names p) (map start_id (range_with_len 0 (length (start_names p)))) asks picks

-- THE ALLOCATIONS OF A STEP, in the order in which they are made
abbrev pub step_rows : Program → ToldStep → List Allocation
step_rows p told = made_rows (made_names p told) told.made told.asks told.picks

-- whether an allocation holds an address
abbrev pub holds : ℕ → Allocation → Bool
holds addr row = not (nat_lt addr row.start) && nat_lt addr (row.start + row.size)

-- THE ALLOCATION THAT HOLDS AN ADDRESS: of a run under a legal schedule there is one at most
abbrev pub found_at : ℕ → List Allocation → Option Allocation
found_at addr [] = None
found_at addr (row ∷ rows) = if holds addr row then Some row else found_at addr rows

-- THE ALLOCATION OF AN IDENTITY: of a run there is one at most
abbrev pub named : AllocId → List Allocation → Option Allocation
named id [] = None
named id (row ∷ rows) = if same_id id row.id then Some row else named id rows
