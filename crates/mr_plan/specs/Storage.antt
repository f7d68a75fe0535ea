-- Storage on the stack: rooms of a size and alignment, and what memory keeps for those that have storage.
use Rattle.std.specs.Prelude.{◌≡◌, ◌≢◌, ℕ, true, List, length, Option, Some, slice_get}
use Rattle.std.specs.FinMap as fin
use Rattle.mr_base.specs.declared.byte.AllocId.{AllocId}
use Rattle.mr_base.specs.declared.byte.Kind.TheVariants.{Stack}
use Rattle.mr_base.specs.declared.byte.Pointer.{Pointer}
use Rattle.mr_mem.specs.Memory.{Allocation, Memory}

-- Room of a size and an alignment in bytes, with storage or without.
pub record Slot : Type 0 where
  pub size : ℕ
  pub align : ℕ
  pub storage : Option Pointer

-- The pointer is the identity and the first address of a live allocation on the stack, which has this size and
-- alignment.
pub record IsStorage (m : Memory) (size align : ℕ) (p : Pointer) : Type 0 where
  pub id : AllocId
  pub alloc : Allocation
  pub prov : p.prov ≡ Some id
  pub there : fin.get m id ≡ Some alloc
  pub live : alloc.live ≡ true
  pub kind : alloc.kind ≡ Stack
  pub addr : alloc.addr ≡ p.addr
  pub bytes : length alloc.bytes ≡ size
  pub aligned : alloc.align ≡ align

-- THE STORAGE OF ALL of them: each that has some has it in memory, and no two have one allocation.
pub record AreHeld (m : Memory) (slots : List Slot) : Type 0 where
  pub each : (i : ℕ) (slot : Slot) (p : Pointer) → slice_get slots i ≡ Some slot → slot.storage ≡ Some p
      → IsStorage m slot.size slot.align p
  pub apart : (i k : ℕ) (a b : Slot) (p q : Pointer) → i ≢ k → slice_get slots i ≡ Some a → slice_get slots k ≡ Some b
      → a.storage ≡ Some p → b.storage ≡ Some q → p.prov ≢ q.prov
