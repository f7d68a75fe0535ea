-- At which places of memory a step reads and writes, as its tally tells.
use Rattle.std.specs.Prelude.{◌≡◌, ℕ, ◌+◌, ◌-◌, ◌<◌, ◌≤◌, ◌⊎◌, Bool, true, Option, None, Some, length, slice_get}
use Rattle.std.specs.Prelude.{if◌then◌else◌, nat_le, Any, Contains}
use Rattle.std.specs.FinMap as fin
use Rattle.mr_base.specs.declared.access.Access.{Access}
use Rattle.mr_base.specs.declared.byte.AbstractByte.{AbstractByte}
use Rattle.mr_base.specs.declared.byte.AllocId.{AllocId}
use Rattle.mr_base.specs.declared.byte.Kind.{Kind}
use Rattle.mr_mem.specs.Memory.{Allocation, Memory}
use Rattle.mr_eval.specs.Tally.{Tally}

-- what is known of an allocation beside its bytes; its size is their number
pub record Header : Type 0 where
  pub addr : ℕ
  pub span : ℕ
  pub align : ℕ
  pub kind : Kind
  pub live : Bool
  pub size : ℕ

-- the header of an allocation, where there is one
abbrev pub header_of : Option Allocation → Option Header
header_of None = None
header_of (Some a) = Some (record {
  addr = a.addr;
  span = a.span;
  align = a.align;
  kind = a.kind;
  live = a.live;
  size = length a.bytes;
})

-- the byte of an allocation at an address, where it has one
abbrev pub byte_at : Option Allocation → ℕ → Option AbstractByte
byte_at None address = None
byte_at (Some a) address = if nat_le a.addr address then slice_get a.bytes (address - a.addr) else None

-- a place of memory: the header of an identity's allocation, or its byte at an address
pub data MemoryPlace : Type 0 where
  HeaderOf : (id : AllocId) → MemoryPlace
  ByteAt : (id : AllocId) (address : ℕ) → MemoryPlace

-- what can stand at a place
abbrev pub AtMemory : MemoryPlace → Type 0
AtMemory (HeaderOf id) = Option Header
AtMemory (ByteAt id address) = Option AbstractByte

-- what stands at a place
abbrev pub in_memory : Memory → (o : MemoryPlace) → AtMemory o
in_memory m (HeaderOf id) = header_of (fin.get m id)
in_memory m (ByteAt id address) = byte_at (fin.get m id) address

-- the access has the address
pub record Covers (address : ℕ) (a : Access) : Type 0 where
  pub from : a.addr ≤ address
  pub to : address < a.addr + a.len

-- the access stores at the address
pub record StoresAt (address : ℕ) (a : Access) : Type 0 where
  pub covers : Covers address a
  pub store : a.store ≡ true

-- It reads the header of what it touched or freed, and the bytes of what it touched at the addresses of its accesses.
abbrev pub ReadsMemory : Tally → MemoryPlace → Type 0
ReadsMemory n (HeaderOf id) = Contains n.touched id ⊎ Contains n.freed id
ReadsMemory n (ByteAt id address) = Contains n.touched id × Any (Covers address) n.accesses

-- It writes the header of what it made or freed, all bytes of what it made, and those of what it touched at the
-- addresses of its stores.
abbrev pub WritesMemory : Tally → MemoryPlace → Type 0
WritesMemory n (HeaderOf id) = Contains n.made id ⊎ Contains n.freed id
WritesMemory n (ByteAt id address) = (Contains n.touched id × Any (StoresAt address) n.accesses) ⊎ Contains n.made id
