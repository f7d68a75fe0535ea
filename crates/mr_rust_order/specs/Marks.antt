-- Where the rows of a run are marked, so that those whose ranges conflict with an access can be found. A range is
-- marked where it begins, on a shelf for ranges that are not longer than its width: so the ranges of a shelf that
-- have an address in common with an access begin at most the width before it.
use Rattle.std.specs.Prelude.{◌≡◌, ℕ, ◌<◌, ◌≤◌, ◌⊎◌, ◌^◌, List, length, Bool, false, IsTrue}
use Rattle.std.specs.Prelude.{slice_index, slice_index_or}
use Rattle.std.specs.BTreeMap.{is_at}
use Rattle.std.specs.List.{list_any}
use Rattle.std.specs.Ordering.{nat_cmp, ordering_then}
use Rattle.std.specs.declared.cmp.Ordering.{Ordering}
use Rattle.mr_base.specs.declared.access.Access.{Access}
use Rattle.mr_rust_order.specs.declared.index.Mark.{Mark}
use Rattle.mr_rust_order.specs.declared.index.Shelf.{Shelf}
use Rattle.mr_rust_order.specs.declared.rows.Row.{Row}
use Rattle.mr_rust_order.specs.Rows.{IsKnownRow, row_at}

-- by shelf, by place, by thread, and then by row
abbrev pub mark_cmp : Mark → Mark → Ordering
mark_cmp a b =
    ordering_then (nat_cmp a.shelf b.shelf)
    (ordering_then (nat_cmp a.place b.place) (ordering_then (nat_cmp a.thread b.thread) (nat_cmp a.row b.row)))

-- the mark of a row
abbrev pub mark_of : ℕ → ℕ → ℕ → ℕ → Mark
mark_of shelf place thread row = record { shelf = shelf; place = place; thread = thread; row = row }

-- whether a mark is there
abbrev pub has_mark : List Mark → Mark → Bool
has_mark marks m = list_any (is_at (mark_cmp m)) marks

-- what stands past the end of the shelves
abbrev pub no_shelf : Shelf
no_shelf = record { width = 0; stores = false }

abbrev pub shelf_at : List Shelf → ℕ → Shelf
shelf_at shelves s = slice_index_or shelves s no_shelf

-- a range is on the shelf at a place: it is not longer than the shelf's width, and a load where the shelf has loads
-- alone
pub record IsOnShelf (shelves : List Shelf) (r : Access) (s : ℕ) : Type 0 where
  pub within : s < length shelves
  pub narrow : r.len ≤ (shelf_at shelves s).width
  pub stored : (shelf_at shelves s).stores ≡ false → r.store ≡ false
  pub small : r.addr < 2 ^ 64

-- the shelves that were there stay where they are
abbrev pub AreKept : List Shelf → List Shelf → Type 0
AreKept old new = (s : ℕ) → s < length old → (s < length new) × (shelf_at new s ≡ shelf_at old s)

-- a row is marked under a range
pub record IsMarked (shelves : List Shelf) (marks : List Mark) (range : Access) (x : ℕ) : Type 0 where
  pub small : x < 2 ^ 64
  pub thread : ℕ
  pub narrow : thread < 2 ^ 32
  pub shelf : ℕ
  pub belongs : IsOnShelf shelves range shelf
  pub marked : IsTrue (has_mark marks (mark_of shelf range.addr thread x))

-- each row is marked under its range
abbrev pub AreMarked : List Shelf → List Mark → List Row → Type 0
AreMarked shelves marks rows = (x : ℕ) → x < length rows → IsMarked shelves marks (row_at rows x).range x

-- a row of the range stands there whose step a clock knows, or the place is that behind all rows, and marked under the
-- range
abbrev pub IsPlaceFor : List Shelf → List Mark → List Row → Access → List ℕ → ℕ → Type 0
IsPlaceFor shelves marks rows range clock x =
    IsKnownRow rows x range clock ⊎ ((x ≡ length rows) × IsMarked shelves marks range x)

-- a number stands in a list
abbrev pub IsListed : List ℕ → ℕ → Type 0
IsListed xs x = (y : ℕ) × (y < length xs) × (slice_index xs y ≡ x)
