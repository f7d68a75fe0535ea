-- Where the rows of a run are marked, so that those of a key can be found. A mark is in a shelf, at a place, and names
-- a thread and a row. A range is marked where it begins, in a shelf for ranges that are not longer than its width: so
-- the ranges of a shelf that have an address in common with another range begin at most the width before it.
use Rattle.std.specs.Prelude.{◌≡◌, ℕ, ◌+◌, ◌*◌, ◌<◌, ◌≤◌, ◌^◌, List, length, slice_index_or, Bool, false, IsTrue}
use Rattle.std.specs.BTreeMap.{is_at}
use Rattle.std.specs.List.{list_any}
use Rattle.std.specs.Ordering.{nat_cmp, ordering_then}
use Rattle.std.specs.declared.cmp.Ordering.{Ordering}
use Rattle.mr_base.specs.declared.access.Access.{Access}
use Rattle.mr_clocks.specs.declared.keys.Key.{Key}
use Rattle.mr_clocks.specs.declared.keys.Key.TheVariants.{Lock, Storing, Creation, Spawning, Starts, Joins, Made}
use Rattle.mr_clocks.specs.declared.keys.Key.TheVariants.{Touched, Range, Wakes}
use Rattle.mr_clocks.specs.declared.index.Mark.{Mark}
use Rattle.mr_clocks.specs.declared.index.Shelf.{Shelf}
use Rattle.mr_clocks.specs.declared.rows.Row.{Row}
use Rattle.mr_clocks.specs.Rows.{row_at}

-- by shelf, by place, by thread, and then by row
abbrev pub mark_cmp : Mark → Mark → Ordering
mark_cmp a b =
    ordering_then (nat_cmp a.shelf b.shelf)
    (ordering_then (nat_cmp a.place b.place) (ordering_then (nat_cmp a.thread b.thread) (nat_cmp a.row b.row)))

-- the mark of a row
abbrev pub mark_of : ℕ → ℕ → ℕ → ℕ → Mark
mark_of shelf place thread row = record { shelf = shelf; place = place; thread = thread; row = row }

-- whether a mark is there
abbrev pub has_mark : List Mark → Mark → Bool
has_mark marks m = list_any (is_at (mark_cmp m)) marks

-- what stands past the end of the shelves
abbrev pub no_shelf : Shelf
no_shelf = record { width = 0; stores = false }

abbrev pub shelf_at : List Shelf → ℕ → Shelf
shelf_at shelves s = slice_index_or shelves s no_shelf

-- the shelf of a key that is not a range
abbrev pub shelf_of : Key → ℕ
shelf_of (Lock _) = 0
shelf_of Creation = 1
shelf_of Spawning = 2
shelf_of (Starts _) = 3
shelf_of (Joins _) = 4
shelf_of (Wakes _) = 5
shelf_of (Storing _) = 6
shelf_of (Made a) = 2 * a.thread + 7
shelf_of (Touched a) = 2 * a.thread + 8
shelf_of (Range _) = 0

-- the place of a key in its shelf
abbrev pub place_of : Key → ℕ
place_of (Lock lock) = lock
place_of (Storing lock) = lock
place_of Creation = 0
place_of Spawning = 0
place_of (Starts thread) = thread
place_of (Joins thread) = thread
place_of (Wakes thread) = thread
place_of (Made a) = a.count
place_of (Touched a) = a.count
place_of (Range r) = r.addr

-- a range is on the shelf at a place: it is not longer than the shelf's width, and a load where the shelf has loads
-- alone
pub record IsOnShelf (shelves : List Shelf) (r : Access) (s : ℕ) : Type 0 where
  pub within : s < length shelves
  pub narrow : r.len ≤ (shelf_at shelves s).width
  pub stored : (shelf_at shelves s).stores ≡ false → r.store ≡ false
  pub small : r.addr < 2 ^ 64

-- a key belongs into a shelf
abbrev pub IsShelfOf : List Shelf → Key → ℕ → Type 0
IsShelfOf shelves (Range r) s = IsOnShelf shelves r s
IsShelfOf shelves key s = s ≡ shelf_of key

-- the shelves that were there stay where they are
abbrev pub AreKept : List Shelf → List Shelf → Type 0
AreKept old new = (s : ℕ) → s < length old → (s < length new) × (shelf_at new s ≡ shelf_at old s)

-- a row is marked under a key
pub record IsMarked (shelves : List Shelf) (marks : List Mark) (key : Key) (x : ℕ) : Type 0 where
  pub small : x < 2 ^ 64
  pub thread : ℕ
  pub narrow : thread < 2 ^ 32
  pub shelf : ℕ
  pub belongs : IsShelfOf shelves key shelf
  pub marked : IsTrue (has_mark marks (mark_of shelf (place_of key) thread x))

-- each row is marked under its key
abbrev pub AreMarked : List Shelf → List Mark → List Row → Type 0
AreMarked shelves marks rows = (x : ℕ) → x < length rows → IsMarked shelves marks (row_at rows x).key x
