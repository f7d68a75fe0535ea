-- The addresses that allocations take, in their order, beside the memory.
use Rattle.std.specs.Prelude.{◌≡◌, ◌≢◌, ℕ, ◌<◌, true, false, List, Option, None, Some, IsSomeAnd}
use Rattle.std.specs.BTreeMap.{is_at}
use Rattle.std.specs.FinMap.Entries.{find}
use Rattle.std.specs.Map.{lookup}
use Rattle.std.specs.Ordering.{is_lt, nat_cmp, ord_min}
use Rattle.mr_base.specs.Pairs.{is_meeting}
use Rattle.mr_base.specs.declared.byte.AllocId.{AllocId}
use Rattle.mr_mem.specs.declared.spans.Span.{Span}
use Rattle.mr_mem.specs.Memory.{Range, Ranges, id_cmp}

-- the spans of allocations, by where they begin
abbrev pub Taken : Type 0
Taken = List (ℕ × Span)

-- the span that begins at an address
abbrev pub span_at : Taken → ℕ → Option Span
span_at taken start = lookup (is_at (nat_cmp start)) taken

-- each span has an address, and no two of them share one
pub record AreApart (taken : Taken) : Type 0 where
  pub filled : (start : ℕ) (s : Span) → span_at taken start ≡ Some s → 0 < s.size
  pub apart :
      (start other : ℕ) (s t : Span) → span_at taken start ≡ Some s → span_at taken other ≡ Some t
      → start ≢ other → is_meeting start s.size other t.size ≡ false

-- no span shares an address with a range
abbrev pub IsFree : Taken → ℕ → ℕ → Type 0
IsFree taken addr size =
    (start : ℕ) (s : Span) → span_at taken start ≡ Some s → is_meeting addr size start s.size ≡ false

-- a span begins at an address now, or none does, and all others are as before
pub record Puts (old : Taken) (start : ℕ) (s : Option Span) (new : Taken) : Type 0 where
  pub here : span_at new start ≡ s
  pub others : (other : ℕ) → other ≢ start → span_at new other ≡ span_at old other

-- ---- what a range overlaps

-- an allocation has a span that shares an address with a range
abbrev pub IsOverlapped : Taken → ℕ → ℕ → AllocId → Type 0
IsOverlapped taken addr size id =
    (start : ℕ) × (s : Span) × (span_at taken start ≡ Some s) × (s.id ≡ id)
    × (is_meeting addr size start s.size ≡ true)

-- an identity with a property, where no other one with the property is less; none, where no identity has the property
pub record IsLeast (P : AllocId → Type 0) (found : Option AllocId) : Type 0 where
  pub has : (id : AllocId) → found ≡ Some id → P id
  pub least : (id : AllocId) → P id → IsSomeAnd found (λ k. is_lt (id_cmp id k) ≡ false)

-- an identity that a range overlaps, or none; that of the span which begins below the range and reaches it, if one does
pub record IsSharedBefore (taken : Taken) (addr size : ℕ) (found : Option AllocId) : Type 0 where
  pub has : (id : AllocId) → found ≡ Some id → IsOverlapped taken addr size id
  pub reaching :
      (start : ℕ) (s : Span) → span_at taken start ≡ Some s → start < addr
      → is_meeting addr size start s.size ≡ true → found ≡ Some s.id

-- the lesser of two identities, of which the first may be missing
abbrev pub lesser_of : Option AllocId → AllocId → AllocId
lesser_of None id = id
lesser_of (Some other) id = ord_min id_cmp other id

-- ---- beside the memory

-- the span of an allocation
abbrev pub span_of : AllocId → Range → Span
span_of id r = record { size = r.size; id = id }

-- the range of a span that begins there
abbrev pub range_at : ℕ → Span → Range
range_at start s = record { addr = start; size = s.size }

-- the spans are those of the ranges that have an address, and no others
pub record AreSpansOf (taken : Taken) (rs : Ranges) : Type 0 where
  pub each :
      (id : AllocId) (r : Range) → find id_cmp id rs ≡ Some r → 0 < r.size
      → span_at taken r.addr ≡ Some (span_of id r)
  pub only :
      (start : ℕ) (s : Span) → span_at taken start ≡ Some s
      → (find id_cmp s.id rs ≡ Some (range_at start s)) × (0 < s.size)
