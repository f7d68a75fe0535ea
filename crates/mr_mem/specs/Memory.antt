-- Memory: a finite map from identities to allocations, and what can be done with it. (MiniRust, mem: the basic memory.)
use Rattle.std.specs.Prelude.{◌≡◌, ℕ, ◌+◌, ◌-◌, ◌%◌, ◌^◌, Bool, true, false, not, ◌&&◌, ◌||◌, ◌==◌, nat_lt, nat_le}
use Rattle.std.specs.Prelude.{if◌then◌else◌, List, [], ◌∷◌, length, map, take, drop, replicate, Option, None}
use Rattle.std.specs.Prelude.{Some, Result, Ok, Err}
use Rattle.std.specs.List.{list_any}
use Rattle.std.specs.Ordering.{nat_cmp, ordering_then}
use Rattle.std.specs.declared.cmp.Ordering.{Ordering}
use Rattle.std.specs.FinMap as fin
use Rattle.std.specs.FinMap.{FinMap}
use Rattle.std.specs.FinMap.Entries.{put}
use Rattle.mr_base.specs.Pairs.{is_meeting}
use Rattle.mr_base.specs.declared.byte.AllocId.{AllocId}
use Rattle.mr_base.specs.declared.byte.Pointer.{Pointer}
use Rattle.mr_base.specs.declared.byte.AbstractByte.{AbstractByte}
use Rattle.mr_base.specs.declared.byte.AbstractByte.TheVariants.{Uninit}
use Rattle.mr_base.specs.declared.byte.Kind.{Kind}
use Rattle.mr_base.specs.declared.byte.Kind.TheVariants.{Heap, Stack, Static, Function}
use Rattle.mr_base.specs.declared.reason.Reason.{Reason}
use Rattle.mr_base.specs.declared.reason.Reason.TheVariants.{Misaligned, NoProvenance, DeadAllocation, OutOfBounds}
use Rattle.mr_base.specs.declared.reason.Reason.TheVariants.{FreeAddress, FreeKind, FreeSize, FreeAlign}
use Rattle.mr_mem.specs.declared.fault.PickFault.{PickFault}
use Rattle.mr_mem.specs.declared.fault.PickFault.TheVariants.{BadAddress, Reused}
use Rattle.mr_runs.specs.Ranges.{with_range_replaced}

-- identities by thread, then by count
abbrev pub id_cmp : AllocId → AllocId → Ordering
id_cmp a b = ordering_then (nat_cmp a.thread b.thread) (nat_cmp a.count b.count)

-- An allocation: where it lies, how many addresses it takes, and its bytes, whose number is its size.
pub record Allocation : Type 0 where
  pub addr : ℕ
  pub span : ℕ
  pub align : ℕ
  pub kind : Kind
  pub live : Bool
  pub bytes : List AbstractByte

-- the allocations by identity
abbrev pub Memory : Type 0
Memory = FinMap id_cmp Allocation

-- ---- making allocations

-- how many bytes an allocation of a size holds: a function takes an address and holds none
abbrev pub held : Kind → ℕ → ℕ
held Function size = 0
held _ size = size

-- a new allocation, all of whose bytes are uninitialised
abbrev pub fresh : Kind → ℕ → ℕ → ℕ → Allocation
fresh kind n align addr =
    record { addr = addr; span = n; align = align; kind = kind; live = true; bytes = replicate (held kind n) Uninit }

-- a memory with one more allocation, whose bytes are uninitialised
abbrev pub allocated : Memory → AllocId → Kind → ℕ → ℕ → ℕ → Memory
allocated m id kind size align addr = fin.insert m id (fresh kind size align addr)

-- a power of two
abbrev pub IsPowerOfTwo : ℕ → Type 0
IsPowerOfTwo n = (k : ℕ) × (n ≡ 2 ^ k)

-- a function is asked for with size 1 and alignment 1
abbrev pub IsAsked : Kind → ℕ → ℕ → Type 0
IsAsked Function size align = (size ≡ 1) × (align ≡ 1)
IsAsked Heap size align = Unit {0}
IsAsked Stack size align = Unit {0}
IsAsked Static size align = Unit {0}

-- ---- picked addresses

-- a number above 0 is no multiple of 0
abbrev pub is_multiple : ℕ → ℕ → Bool
is_multiple addr align = not (align == 0) && (addr % align == 0)

-- 0, misaligned, or past the address space
abbrev pub is_bad_address : ℕ → ℕ → ℕ → Bool
is_bad_address addr size align = (addr == 0) || (not (is_multiple addr align) || nat_lt (2 ^ 64) (addr + size))

-- the addresses that an allocation takes
pub record Range : Type 0 where
  pub addr : ℕ
  pub size : ℕ

-- the ranges of allocations by identity
abbrev pub Ranges : Type 0
Ranges = List (AllocId × Range)

-- the range of an allocation
abbrev pub range_of : AllocId × Allocation → AllocId × Range
range_of e = (e.0, record { addr = e.1.addr; size = e.1.span })

-- the ranges of all allocations, dead and live, in the order of their identities
unfoldable pub ranges_of : Memory → Ranges
ranges_of m = map range_of (fin.entries m)

-- with one more range, in its place
abbrev pub with_range : Ranges → AllocId → ℕ → ℕ → Ranges
with_range rs id addr size = put id_cmp id (record { addr = addr; size = size }) rs

-- the least identity whose range the new one overlaps
abbrev pub first_overlapped : ℕ → ℕ → Ranges → Option AllocId
first_overlapped addr size [] = None
first_overlapped addr size (r ∷ rs) =
    if is_meeting addr size r.1.addr r.1.size then Some r.0 else first_overlapped addr size rs

-- the fault that names what is overlapped
abbrev pub reused : Option AllocId → Option PickFault
reused None = None
reused (Some id) = Some (Reused id)

-- why an address may not be picked for a new allocation among these ranges, if it may not
unfoldable pub range_fault : Ranges → ℕ → ℕ → ℕ → Option PickFault
range_fault rs addr size align =
    if is_bad_address addr size align then Some BadAddress else reused (first_overlapped addr size rs)

-- why an address may not be picked for a new allocation, if it may not
abbrev pub pick_fault : Memory → ℕ → ℕ → ℕ → Option PickFault
pick_fault m addr size align = range_fault (ranges_of m) addr size align

-- ---- freeing

-- the allocation of a provenance; one that names no allocation counts as none
abbrev pub found : Memory → Option AllocId → Option Allocation
found m None = None
found m (Some id) = fin.get m id

-- the reason of the first test that fails
abbrev pub first_failed : List (Bool × Reason) → Option Reason
first_failed [] = None
first_failed (t ∷ ts) = if t.0 then first_failed ts else Some t.1

-- each kind has a number, to compare kinds by
abbrev pub kind_number : Kind → ℕ
kind_number Heap = 0
kind_number Stack = 1
kind_number Static = 2
kind_number Function = 3

-- why an allocation may not be freed by a pointer to this address, as of this kind, size and alignment
unfoldable pub free_fault : Allocation → ℕ → Kind → ℕ → ℕ → Option Reason
free_fault a addr kind size align =
    first_failed (
    (a.live, DeadAllocation)
    ∷ (addr == a.addr, FreeAddress)
    ∷ (kind_number kind == kind_number a.kind, FreeKind)
    ∷ (size == length a.bytes, FreeSize)
    ∷ (align == a.align, FreeAlign)
    ∷ [])

-- the first reason against freeing what a provenance names
abbrev pub refusal : Option Allocation → ℕ → Kind → ℕ → ℕ → Option Reason
refusal None addr kind size align = Some NoProvenance
refusal (Some a) addr kind size align = free_fault a addr kind size align

-- the memory in which the allocation is dead
abbrev pub without_life : Memory → AllocId → Option Allocation → Memory
without_life m id None = m
without_life m id (Some a) = fin.insert m id (record a { live = false })

-- a value, unless there is a reason against it
abbrev pub unless : {A : Type 0} → Option Reason → A → Result A Reason
unless None x = Ok x
unless (Some r) x = Err r

-- the same by the provenance of the pointer
abbrev pub freed_of : Memory → Option AllocId → ℕ → Kind → ℕ → ℕ → Result (AllocId × Memory) Reason
freed_of m None addr kind size align = Err NoProvenance
freed_of m (Some id) addr kind size align =
    unless (refusal (fin.get m id) addr kind size align) (id, without_life m id (fin.get m id))

-- the allocation that is freed and the memory after it, or the first reason against it
unfoldable pub freed : Memory → Pointer → Kind → ℕ → ℕ → Result (AllocId × Memory) Reason
freed m p kind size align = freed_of m p.prov p.addr kind size align

-- ---- checking, reading and writing ranges

-- the allocation, where it is live and the range lies in it, or the first reason against it
abbrev pub inside : Option Allocation → ℕ → ℕ → Result Allocation Reason
inside None addr len = Err NoProvenance
inside (Some a) addr len =
    if a.live
    then (if nat_le a.addr addr && nat_le (addr + len) (a.addr + length a.bytes) then Ok a else Err OutOfBounds)
    else Err DeadAllocation

-- what is made of a value, where there is one
abbrev pub then_give : {A B : Type 0} → Result A Reason → (A → B) → Result B Reason
then_give (Ok x) f = Ok (f x)
then_give (Err r) f = Err r

-- the range check: what it touches, where the length is positive
abbrev pub checked : Memory → Pointer → ℕ → Result (Option AllocId) Reason
checked m p len = if len == 0 then Ok None else then_give (inside (found m p.prov) p.addr len) (λ _. p.prov)

-- the bytes of a range of an allocation
abbrev pub bytes_at : Allocation → ℕ → ℕ → List AbstractByte
bytes_at a addr len = take len (drop (addr - a.addr) a.bytes)

-- alignment comes before the range check
abbrev pub aligned : {A : Type 0} → Pointer → ℕ → Result A Reason → Result A Reason
aligned p align r = if is_multiple p.addr align then r else Err Misaligned

-- the bytes from a pointer on
abbrev pub read : Memory → Pointer → ℕ → ℕ → Result (List AbstractByte) Reason
read m p len align =
    aligned p align
    (if len == 0 then Ok [] else then_give (inside (found m p.prov) p.addr len) (λ a. bytes_at a p.addr len))

-- an allocation in which bytes are replaced from an address on, where their range lies in it
abbrev pub put_bytes : Allocation → ℕ → List AbstractByte → Result Allocation Reason
put_bytes a addr bytes =
    then_give (inside (Some a) addr (length bytes))
    (λ _. record a { bytes = with_range_replaced a.bytes (addr - a.addr) bytes })

-- the memory with bytes put into the allocation of an identity
abbrev pub put_at : Memory → AllocId → Option Allocation → ℕ → List AbstractByte → Result Memory Reason
put_at m id None addr bytes = Err NoProvenance
put_at m id (Some a) addr bytes = then_give (put_bytes a addr bytes) (fin.insert m id)

-- the memory with these bytes in the allocation that a pointer's provenance names
abbrev pub put_in : Memory → Pointer → List AbstractByte → Result Memory Reason
put_in m p bytes =
    elim p.prov as
    (λ _. Result Memory Reason) [ None ↦ Err NoProvenance | Some id ↦ put_at m id (fin.get m id) p.addr bytes ]

-- the memory with bytes put from a pointer on
abbrev pub written : Memory → Pointer → List AbstractByte → ℕ → Result Memory Reason
written m p bytes align = aligned p align (if length bytes == 0 then Ok m else put_in m p bytes)

-- ---- extents

-- the address and the size of an allocation, dead or live, where there is one
abbrev pub extent_of : Option Allocation → Option (ℕ × ℕ)
extent_of None = None
extent_of (Some a) = Some (a.addr, length a.bytes)

-- ---- leaks

-- whether an allocation is of the heap
abbrev pub is_heap : Kind → Bool
is_heap Heap = true
is_heap _ = false

-- a live allocation of the heap
abbrev pub is_leak : AllocId × Allocation → Bool
is_leak e = e.1.live && is_heap e.1.kind

-- a heap allocation is live
unfoldable pub leaks : Memory → Bool
leaks m = list_any is_leak (fin.entries m)
