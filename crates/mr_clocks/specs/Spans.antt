-- The addresses of accesses as spans in order, by which a step that has many finds the rows that it asks.
use Rattle.std.specs.Prelude.{◌≡◌, ℕ, ◌+◌, ◌-◌, ◌<◌, ◌≤◌, ◌^◌, min, List, length, slice_index_or, Bool, true, false}
use Rattle.std.specs.Prelude.{IsTrue}
use Rattle.std.specs.List.{Contains}
use Rattle.std.specs.List.Sorted.{IsNonDecreasingBy}
use Rattle.mr_base.specs.declared.access.Access.{Access}
use Rattle.mr_clocks.specs.declared.spans.Span.{Span}
use Rattle.mr_clocks.specs.declared.spans.Spans.{Spans}

-- what stands past the end of the spans
abbrev pub no_span : Span
no_span = record { first = 0; last = 0 }

abbrev pub span_at : List Span → ℕ → Span
span_at spans k = slice_index_or spans k no_span

-- the last address of an access, of those that there are
abbrev pub last_of : Access → ℕ
last_of a = min (a.addr + (a.len - 1)) (2 ^ 64 - 1)

-- the addresses of an access that has some
abbrev pub span_of : Access → Span
span_of a = record { first = a.addr; last = last_of a }

-- from one span to the next neither the first address falls nor the last
pub record AreRising (spans : List Span) : Type 0 where
  pub firsts : IsNonDecreasingBy (λ s. s.first) spans
  pub lasts : IsNonDecreasingBy (λ s. s.last) spans

-- one of the spans has all addresses from one to another
pub record IsSpanned (spans : List Span) (first last : ℕ) : Type 0 where
  pub span : ℕ
  pub within : span < length spans
  pub begins : (span_at spans span).first ≤ first
  pub ends : last ≤ (span_at spans span).last

-- rising spans that have all addresses of every access, or of each store
pub record AreSpansFor (accesses : List Access) (every : Bool) (spans : List Span) : Type 0 where
  pub rising : AreRising spans
  pub each : (a : Access) → Contains accesses a → 0 < a.len → (every ≡ false → IsTrue a.store)
      → IsSpanned spans a.addr (last_of a)

-- both of them
pub record AreSpansOf (accesses : List Access) (spans : Spans) : Type 0 where
  pub all : AreSpansFor accesses true spans.all.items
  pub stores : AreSpansFor accesses false spans.stores.items

-- A place of a shelf is reached by a span: a range that begins there and isn't longer than the shelf's width may have
-- an address in the span.
abbrev pub IsReached : List Span → ℕ → ℕ → ℕ → Type 0
IsReached spans width k place = ((span_at spans k).first - width ≤ place) × (place ≤ (span_at spans k).last)
