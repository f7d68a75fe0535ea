-- Where the bytes of a global are stored one item behind the other.
use Rattle.std.specs.Prelude.{◌≡◌, ℕ, ◌+◌, ◌<◌, ◌≤◌, ◌^◌, true, Some, length}
use Rattle.std.specs.FinMap as fin
use Rattle.mr_base.specs.declared.byte.AllocId.{AllocId}
use Rattle.mr_base.specs.declared.byte.Pointer.{Pointer}
use Rattle.mr_mem.specs.Memory.{Allocation, Memory}

-- so many bytes at a pointer lie in the live allocation of its provenance, and end below 2^64
pub record HasRange (m : Memory) (p : Pointer) (len : ℕ) : Type 0 where
  pub id : AllocId
  pub alloc : Allocation
  pub prov : p.prov ≡ Some id
  pub there : fin.get m id ≡ Some alloc
  pub live : alloc.live ≡ true
  pub from : alloc.addr ≤ p.addr
  pub to : p.addr + len ≤ alloc.addr + length alloc.bytes
  pub low : p.addr + len < 2 ^ 64
