-- What the entries of the program's map stand for, and what its calls answer.
use Rattle.std.specs.Prelude.{◌≡◌, ℕ, List, map, Result, Ok, Err}
use Rattle.std.specs.FinMap as fin
use Rattle.mr_base.specs.declared.byte.AllocId.{AllocId}
use Rattle.mr_mem.specs.declared.memory.Stored.{Stored}
use Rattle.mr_base.specs.declared.byte.AbstractByte.{AbstractByte}
use Rattle.mr_base.specs.declared.reason.Reason.{Reason}
use Rattle.mr_runs.specs.Pieces.{SeenPiece, bytes_of_pieces}
use Rattle.mr_mem.specs.declared.fault.Fault.{Fault}
use Rattle.mr_mem.specs.declared.fault.Fault.TheVariants as fault
use Rattle.mr_mem.specs.Memory.{Memory, Allocation, put_bytes}

-- an allocation without where its bytes are kept
abbrev pub allocation_of : Stored → Allocation
allocation_of a =
    record { addr = a.addr; span = a.span; align = a.align; kind = a.kind; live = a.live; bytes = a.bytes }

-- the entries without where their bytes are kept
abbrev pub entries_of : List (AllocId × Stored) → List (AllocId × Allocation)
entries_of es = map (λ e. (e.0, allocation_of e.1)) es

-- the memory that some entries are
abbrev pub memory_of : List (AllocId × Stored) → Memory
memory_of es = fin.from_entries (entries_of es)

-- the bytes that are lent
abbrev pub seen_view : Result (List SeenPiece) Reason → Result (List AbstractByte) Reason
seen_view (Ok pieces) = Ok (bytes_of_pieces pieces)
seen_view (Err r) = Err r

-- what is stored is what is defined, or the reason is, unless the host's memory ran out
abbrev pub IsStored : Result Memory Reason → Memory → Result (Unit {0}) Fault → Type 0
IsStored defined new (Ok u) = defined ≡ Ok new
IsStored defined new (Err (fault.Undefined r)) = defined ≡ Err r
IsStored defined new (Err fault.Memory) = Unit {0}

-- the same of one allocation
abbrev pub IsStoredIn : Allocation → ℕ → List AbstractByte → Allocation → Result (Unit {0}) Fault → Type 0
IsStoredIn old addr bytes new (Ok u) = put_bytes old addr bytes ≡ Ok new
IsStoredIn old addr bytes new (Err (fault.Undefined r)) = put_bytes old addr bytes ≡ Err r
IsStoredIn old addr bytes new (Err fault.Memory) = Unit {0}
