-- The arrows of a part of a run: what happens before what, but for what lanes and other arrows give already.
use Rattle.std.specs.Prelude.{◌≡◌, ℕ, ◌+◌, ◌-◌, ◌<◌, ◌==◌, ◌&&◌, Bool, not, if◌then◌else◌, List, [], ◌∷◌, flat_map}
use Rattle.std.specs.List.{Contains, list_any, range_with_len}
use Rattle.mr_event.specs.Footprint.{Footprint}
use Rattle.mr_event.specs.declared.footprint.Pair.{Pair}
use Rattle.mr_event.specs.Order.{thread_at}
use Rattle.mr_event.specs.Predicted.{happens_before}
use Rattle.mr_picture.specs.declared.span.Span.{Span}
use Rattle.mr_picture.specs.Span.{steps_in}

-- whether step k lies between two others: behind the first and before the second in the order
abbrev pub lies_between : List Footprint → ℕ → ℕ → ℕ → Bool
lies_between run i j k = happens_before run i k && happens_before run k j

-- the numbers of the steps between two others
abbrev pub inside : ℕ → ℕ → List ℕ
inside i j = range_with_len (i + 1) (j - (i + 1))

-- whether an arrow is drawn from step i to step j: they are of two threads, i happens before j, and no step
-- lies between
abbrev pub is_arrow : List Footprint → ℕ → ℕ → Bool
is_arrow run i j =
    not (thread_at run i == thread_at run j)
    && (happens_before run i j && not (list_any (lies_between run i j) (inside i j)))

-- the arrow to step j from step i, if there is one
abbrev pub arrow_from : List Footprint → ℕ → ℕ → List Pair
arrow_from run j i = if is_arrow run i j then record { first = i; second = j } ∷ [] else []

-- the arrows to step j from the steps from a place on
abbrev pub arrows_to : List Footprint → ℕ → ℕ → List Pair
arrows_to run from j = flat_map (arrow_from run j) (range_with_len from (j - from))

-- THE ARROWS between the steps of a part
abbrev pub arrows : List Footprint → Span → List Pair
arrows run span = flat_map (arrows_to run span.from) (steps_in span)

-- A PATH OF LANES AND ARROWS from one step to a later one: down the lane of a thread, along an arrow, or along one path
-- and then another
pub data Joined (run : List Footprint) (drawn : List Pair) : ℕ → ℕ → Type 0 where
  lane : {i j : ℕ} → i < j → thread_at run i ≡ thread_at run j → Joined run drawn i j
  arrow : {i j : ℕ} → Contains drawn (record { first = i; second = j }) → Joined run drawn i j
  behind : {i j k : ℕ} → Joined run drawn i j → Joined run drawn j k → Joined run drawn i k
