-- Whatever memory refuses, it gives a reason that speaks of bytes.
use Rattle.mr_mem.proofs.Common.{◌≡◌, ℕ, ◌+◌, refl, List, [], ◌∷◌, length, Bool, true, false, ◌&&◌, Option, Some, None, Result, Ok, Err, ◌==◌, AbstractByte, AllocId, Pointer, Allocation, Memory, found, free_fault, freed, freed_of, inside, put_at, refusal, then_give, unless}
use Rattle.std.specs.Prelude.{if◌then◌else◌, nat_le}
use Rattle.mr_base.specs.Stops.{speaks}
use Rattle.mr_base.specs.declared.byte.Kind.{Kind}
use Rattle.mr_base.specs.declared.reason.Reason.{Reason}
use Rattle.mr_base.specs.declared.reason.Reason.TheVariants.{DeadAllocation, FreeAddress, FreeAlign, FreeKind, FreeSize, Misaligned, NoProvenance, OutOfBounds}
use Rattle.mr_mem.specs.Memory.{aligned, bytes_at, checked, first_failed, is_multiple, kind_number, put_bytes, put_in, read, written}
use Rattle.std.specs.FinMap as fin

abbrev pub Speaks : Reason → Type 0
Speaks r = speaks r ≡ true

abbrev pub SpeakResult : {X : Type 0} → Result X Reason → Type 0
SpeakResult (Ok x) = Unit {0}
SpeakResult (Err r) = Speaks r

abbrev SpeakOption : Option Reason → Type 0
SpeakOption None = Unit {0}
SpeakOption (Some r) = Speaks r

inside_speaks : (o : Option Allocation) (addr len : ℕ) → SpeakResult (inside o addr len)
inside_speaks None addr len = refl
inside_speaks (Some a) addr len = by a.live (nat_le a.addr addr && nat_le (addr + len) (a.addr + length a.bytes))
  where
    by : (live within : Bool) → SpeakResult {X = Allocation} (if live then (if within then Ok a else Err OutOfBounds) else Err DeadAllocation)
    by true true = tt
    by true false = refl
    by false within = refl

then_speaks : {A B : Type 0} (r : Result A Reason) (f : A → B) → SpeakResult r → SpeakResult (then_give r f)
then_speaks (Ok x) f h = tt
then_speaks (Err r) f h = h

aligned_speaks : {A : Type 0} (p : Pointer) (align : ℕ) (r : Result A Reason) → SpeakResult r → SpeakResult (aligned p align r)
aligned_speaks {A} p align r h = by (is_multiple p.addr align)
  where
    by : (b : Bool) → SpeakResult {X = A} (if b then r else Err Misaligned)
    by true = h
    by false = refl

pub checked_speaks : (m : Memory) (p : Pointer) (len : ℕ) → SpeakResult (checked m p len)
checked_speaks m p len = by (len == 0)
  where
    by : (b : Bool) → SpeakResult {X = Option AllocId} (if b then Ok None else then_give (inside (found m p.prov) p.addr len) (λ _. p.prov))
    by true = tt
    by false = then_speaks (inside (found m p.prov) p.addr len) (λ _. p.prov) (inside_speaks (found m p.prov) p.addr len)

pub read_speaks : (m : Memory) (p : Pointer) (len align : ℕ) → SpeakResult (read m p len align)
read_speaks m p len align = aligned_speaks p align _ (by (len == 0))
  where
    by : (b : Bool) → SpeakResult {X = List AbstractByte} (if b then Ok [] else then_give (inside (found m p.prov) p.addr len) (λ a. bytes_at a p.addr len))
    by true = tt
    by false = then_speaks (inside (found m p.prov) p.addr len) (λ a. bytes_at a p.addr len) (inside_speaks (found m p.prov) p.addr len)

put_at_speaks : (m : Memory) (id : AllocId) (o : Option Allocation) (addr : ℕ) (bytes : List AbstractByte) → SpeakResult (put_at m id o addr bytes)
put_at_speaks m id None addr bytes = refl
put_at_speaks m id (Some a) addr bytes = then_speaks (put_bytes a addr bytes) (fin.insert m id) (then_speaks (inside (Some a) addr (length bytes)) _ (inside_speaks (Some a) addr (length bytes)))

put_in_speaks : (m : Memory) (p : Pointer) (bytes : List AbstractByte) → SpeakResult (put_in m p bytes)
put_in_speaks m p bytes = by p.prov
  where
    by : (o : Option AllocId) → SpeakResult (elim o as (λ _. Result Memory Reason) [ None ↦ Err NoProvenance | Some id ↦ put_at m id (fin.get m id) p.addr bytes ])
    by None = refl
    by (Some id) = put_at_speaks m id (fin.get m id) p.addr bytes

pub written_speaks : (m : Memory) (p : Pointer) (bytes : List AbstractByte) (align : ℕ) → SpeakResult (written m p bytes align)
written_speaks m p bytes align = aligned_speaks p align _ (by (length bytes == 0))
  where
    by : (b : Bool) → SpeakResult {X = Memory} (if b then Ok m else put_in m p bytes)
    by true = tt
    by false = put_in_speaks m p bytes

abbrev AllSpeak : List (Bool × Reason) → Type 0
AllSpeak [] = Unit {0}
AllSpeak (t ∷ ts) = Speaks t.1 × AllSpeak ts

first_speaks : (ts : List (Bool × Reason)) → AllSpeak ts → SpeakOption (first_failed ts)
first_speaks [] h = tt
first_speaks (t ∷ ts) h = by (first_speaks ts h.1) t.0
  where
    by : SpeakOption (first_failed ts) → (b : Bool) → SpeakOption (if b then first_failed ts else Some t.1)
    by rest true = rest
    by rest false = h.0

refusal_speaks : (o : Option Allocation) (addr : ℕ) (kind : Kind) (size align : ℕ) → SpeakOption (refusal o addr kind size align)
unfolding free_fault
refusal_speaks None addr kind size align = refl
refusal_speaks (Some a) addr kind size align =
    first_speaks ((a.live, DeadAllocation) ∷ (addr == a.addr, FreeAddress) ∷ (kind_number kind == kind_number a.kind, FreeKind) ∷ (size == length a.bytes, FreeSize) ∷ (align == a.align, FreeAlign) ∷ [])
    (refl, (refl, (refl, (refl, (refl, tt)))))

unless_speaks : {A : Type 0} (o : Option Reason) (x : A) → SpeakOption o → SpeakResult (unless o x)
unless_speaks None x h = tt
unless_speaks (Some r) x h = h

freed_of_speaks : (m : Memory) (o : Option AllocId) (addr : ℕ) (kind : Kind) (size align : ℕ) → SpeakResult (freed_of m o addr kind size align)
freed_of_speaks m None addr kind size align = refl
freed_of_speaks m (Some id) addr kind size align = unless_speaks (refusal (fin.get m id) addr kind size align) _ (refusal_speaks (fin.get m id) addr kind size align)

pub freed_speaks : (m : Memory) (p : Pointer) (kind : Kind) (size align : ℕ) → SpeakResult (freed m p kind size align)
unfolding freed
freed_speaks m p kind size align = freed_of_speaks m p.prov p.addr kind size align
