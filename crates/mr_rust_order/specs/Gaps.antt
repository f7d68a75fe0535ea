-- Where a way over steps of a run leaves Rust's order.
use Rattle.std.specs.Prelude.{ℕ, List, [], ◌∷◌, Bool, not, Option}
use Rattle.std.specs.List.{find}
use Rattle.mr_event.specs.Footprint.{Footprint}
use Rattle.mr_event.specs.declared.footprint.Pair.{Pair}
use Rattle.mr_rust_order.specs.Tests.{happens_before}

-- the links of the way from a step over these: each leads from one step to the next
abbrev pub links : ℕ → List ℕ → List Pair
links from [] = []
links from (step ∷ way) = record { first = from; second = step } ∷ links step way

-- whether the first step of a link doesn't happen before its second
abbrev pub is_gap : List Footprint → Pair → Bool
is_gap run link = not (happens_before run link.first link.second)

-- THE FIRST LINK of a way that is not in Rust's order, if one is not
abbrev pub first_gap : List Footprint → ℕ → List ℕ → Option Pair
first_gap run from way = find (is_gap run) (links from way)
