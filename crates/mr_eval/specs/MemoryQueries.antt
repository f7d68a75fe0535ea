-- What a step may ask of memory, and what memory answers. (MiniRust, mem: the basic memory.)
use Rattle.std.specs.Prelude.{ℕ, ◌+◌, Bool, true, List, [], ◌∷◌, ◌++◌, Option, None, Some}
use Rattle.mr_base.specs.declared.byte.AllocId.{AllocId}
use Rattle.mr_base.specs.declared.byte.Pointer.{Pointer}
use Rattle.mr_base.specs.declared.byte.AbstractByte.{AbstractByte}
use Rattle.mr_base.specs.declared.byte.Kind.{Kind}
use Rattle.mr_base.specs.declared.reason.Reason.TheVariants.{InvalidValue}
use Rattle.mr_base.specs.declared.reached.Reaching.TheVariants.{Changes, Frees}
use Rattle.mr_mem.specs.Memory.{Memory, allocated, freed, written}
use Rattle.mr_runs.specs.Numbers.{with_provenance}
use Rattle.mr_base.specs.Stops.{over, reached_by}
use Rattle.mr_base.specs.Script.{Script, Done, Undefined, IllFormed, Ask, Outcome, Refused, Went, on}
use Rattle.mr_value.specs.Numbers.{Bytes, little_endian, number_of}
use Rattle.mr_eval.specs.Reads.{ReadQuery, ReadReply, ReadScript, Seen, accessing, answered, lending, reading, seeing}
use Rattle.mr_eval.specs.Stores.{storing}
use Rattle.mr_eval.specs.Tally.{Tally, seen_of, with_seen}

-- What evaluation asks; a store; an integer's read and, where the change gives one, a store; an allocation; its end.
pub data MemoryQuery : Type 0 where
  Reading : (q : ReadQuery) → MemoryQuery
  Write : (atomic : Bool) (p : Pointer) (bytes : List AbstractByte) (align : ℕ) → MemoryQuery
  Modify : (p : Pointer) (size : ℕ) (change : ℕ → Option ℕ) → MemoryQuery
  Allocate : (kind : Kind) (size align addr : ℕ) → MemoryQuery
  Free : (p : Pointer) (kind : Kind) (size align : ℕ) → MemoryQuery

-- a modification gives the number before it; an allocation the pointer to it
abbrev pub MemoryReply : MemoryQuery → Type 0
MemoryReply (Reading q) = ReadReply q
MemoryReply (Modify p size change) = ℕ
MemoryReply (Allocate kind size align addr) = Pointer
MemoryReply _ = Unit {0}

-- a script of a step that asks memory alone
abbrev pub MemoryScript : Type 0 → Type 0
MemoryScript A = Script MemoryQuery MemoryReply A

-- a script of evaluation, as a part of one
abbrev pub reading_part : {A : Type 0} → ReadScript A → MemoryScript A
reading_part (Done a) = Done a
reading_part (Undefined r) = Undefined r
reading_part IllFormed = IllFormed
reading_part (Ask q k) = Ask (Reading q) (λ x. reading_part (k x))

-- ---- what memory answers

-- an allocation's identity: the thread that made it, and how many that thread had made
abbrev pub next_id : Tally → AllocId
next_id n = record { thread = n.thread; count = n.count }

-- the pointer to an address, with the provenance of an allocation
abbrev pub pointer_to : AllocId → ℕ → Pointer
pointer_to id addr = record { addr = addr; prov = Some id }

-- a number in so many bytes, least byte first, without provenance
abbrev pub number_bytes : ℕ → ℕ → Bytes
number_bytes size n = with_provenance None (little_endian size n)

-- the number before, where another one is put in its place or none; the range was checked by then
abbrev pub replacing : Memory → Pointer → ℕ → ℕ → Option ℕ → Seen → Outcome ℕ (Memory × Seen)
replacing m p size old None s = Went old (m, s)
replacing m p size old (Some new) s =
    answered (reached_by Changes p size) (written m p (number_bytes size new) size)
    (λ after. Went old (after, seeing (accessing true true p size) [] s))

-- of the bytes that were read: the number that they are, and the change of it
abbrev pub changing : Memory → Pointer → ℕ → (ℕ → Option ℕ) → Option ℕ → Seen → Outcome ℕ (Memory × Seen)
changing m p size change None s = Refused (over (reached_by Changes p size) InvalidValue)
changing m p size change (Some n) s = replacing m p size n (change n) s

-- the read and change of an integer: one range check, an atomic load, and an atomic store where there is a new number
abbrev pub modifying : Memory → Pointer → ℕ → (ℕ → Option ℕ) → Seen → Outcome ℕ (Memory × Seen)
modifying m p size change s =
    on (lending m Changes true p size size s) (λ bytes s'. changing m p size change (number_of bytes) s')

-- what memory answers, and what stands in it and in the tally afterwards
abbrev pub memory_answer : (q : MemoryQuery) → Memory × Tally → Outcome (MemoryReply q) (Memory × Tally)
memory_answer (Reading q) w = on (reading w.0 q (seen_of w.1)) (λ x s. Went x (w.0, with_seen w.1 s))
memory_answer (Write atomic p bytes align) w =
    on (storing w.0 atomic p bytes align (seen_of w.1)) (λ m s. Went tt (m, with_seen w.1 s))
memory_answer (Modify p size change) w =
    on (modifying w.0 p size change (seen_of w.1)) (λ x v. Went x (v.0, with_seen w.1 v.1))
memory_answer (Allocate kind size align addr) w =
    Went (pointer_to (next_id w.1) addr) (
      allocated w.0 (next_id w.1) kind size align addr,
      record w.1 { made = w.1.made ++ next_id w.1 ∷ []; ranges = w.1.ranges ++ (addr, size) ∷ []; count = w.1.count + 1 },
    )
memory_answer (Free p kind size align) w =
    answered (reached_by Frees p size) (freed w.0 p kind size align)
    (λ f. Went tt (f.1, record w.1 { freed = w.1.freed ++ f.0 ∷ [] }))
