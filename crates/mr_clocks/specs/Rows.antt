-- The rows of a run. A row keeps, for a key and a thread, the steps of the thread that are noted under the key, the
-- latest first, as links of which each leads to the one before it. A shared key has one row for all threads, which
-- names that of its latest step.
use Rattle.std.specs.Prelude.{◌≡◌, ◌≢◌, ℕ, suc, ◌+◌, ◌<◌, ◌≤◌, ◌⊎◌, List, [], ◌∷◌, ◌++◌, length, take, slice_index}
use Rattle.std.specs.Prelude.{slice_index_or, IsTrue, true, false}
use Rattle.mr_event.specs.Footprint.{Footprint}
use Rattle.mr_event.specs.Order.{step_at, thread_at, Edge, RacePair}
use Rattle.mr_clocks.specs.declared.keys.Key.{Key}
use Rattle.mr_clocks.specs.declared.keys.Key.TheVariants.{Lock}
use Rattle.mr_clocks.specs.declared.rows.Row.{Row}
use Rattle.mr_clocks.specs.declared.rows.Link.{Link}
use Rattle.mr_clocks.specs.Clocks.{IsUnder}
use Rattle.mr_clocks.specs.Keys.{Counts, asks, has_row, is_shared, key_races}

-- what stands past the end of the links, and of the rows
abbrev pub no_link : Link
no_link = record { step = 0; before = 0 }

abbrev pub no_row : Row
no_row = record { key = Lock 0; thread = 0; last = 0 }

-- the link and the row at a place, and the step that a link keeps
abbrev pub link_at : List Link → ℕ → Link
link_at links k = slice_index_or links k no_link

abbrev pub row_at : List Row → ℕ → Row
row_at rows x = slice_index_or rows x no_row

abbrev pub step_of : List Link → ℕ → ℕ
step_of links k = (link_at links k).step

-- link k is one of those that begin at a number, which is one more than the place of the first, or 0 where there is
-- none
pub data IsIn (links : List Link) (k : ℕ) : ℕ → Type 0 where
  latest : IsIn links k (suc k)
  behind : (m : ℕ) → IsIn links k (link_at links m).before → IsIn links k (suc m)

-- each link leads to one before it, which keeps an earlier step, or to none
pub record AreLinks (links : List Link) : Type 0 where
  pub low : (k : ℕ) → k < length links → (link_at links k).before ≤ k
  pub falling : (k b : ℕ) → k < length links → (link_at links k).before ≡ b + 1 → step_of links b < step_of links k

-- step s is one of the first n, of the row's thread where the key isn't shared, and noted in rows of its key
pub record IsOfRow (run : List Footprint) (n : ℕ) (row : Row) (s : ℕ) : Type 0 where
  pub within : s < n
  pub thread : is_shared row.key ≡ false → thread_at run s ≡ row.thread
  pub noted : IsTrue (has_row (step_at run s) row.key)

-- every step of the row is such a step, and the latest one is of the row's thread
pub record IsRow (run : List Footprint) (n : ℕ) (links : List Link) (row : Row) : Type 0 where
  pub last : row.last ≤ length links
  pub steps : (k : ℕ) → IsIn links k row.last → IsOfRow run n row (step_of links k)
  pub newest : (k : ℕ) → row.last ≡ k + 1 → thread_at run (step_of links k) ≡ row.thread

-- step i is kept by one of the links that begin at a number
pub record IsKept (links : List Link) (at i : ℕ) : Type 0 where
  pub link : ℕ
  pub inside : IsIn links link at
  pub is : step_of links link ≡ i

-- step i is kept in a row of the key
pub record IsHeld (run : List Footprint) (rows : List Row) (links : List Link) (i : ℕ) (key : Key) : Type 0 where
  pub row : ℕ
  pub within : row < length rows
  pub of_key : (row_at rows row).key ≡ key
  pub kept : IsKept links (row_at rows row).last i

-- the rows of the first n steps of a run: each of them is kept in a row for every key under which it is noted
pub record AreRows (run : List Footprint) (n : ℕ) (rows : List Row) (links : List Link) : Type 0 where
  pub chained : AreLinks links
  pub each : (x : ℕ) → x < length rows → IsRow run n links (row_at rows x)
  pub held : (i : ℕ) (key : Key) → i < n → IsTrue (has_row (step_at run i) key) → IsHeld run rows links i key

-- the old rows, and behind them some without a step
pub record IsGrown (old new : List Row) : Type 0 where
  pub longer : length old ≤ length new
  pub same : take (length old) new ≡ old
  pub empty : (x : ℕ) → length old ≤ x → x < length new → (row_at new x).last ≡ 0

-- a place of the rows has a row of the key, and of the thread where the key isn't shared
pub record IsRowFor (rows : List Row) (x : ℕ) (key : Key) (thread : ℕ) : Type 0 where
  pub within : x < length rows
  pub of_key : (row_at rows x).key ≡ key
  pub of_thread : is_shared key ≡ false → (row_at rows x).thread ≡ thread

-- the number of links that step j goes before in a row: all of them, or all but the first where that one keeps j
pub record IsBelow (links : List Link) (last j before : ℕ) : Type 0 where
  pub all_or_less :
      ((before ≡ last) × ((k : ℕ) → last ≡ k + 1 → step_of links k ≢ j))
      ⊎ ((k : ℕ) × (last ≡ k + 1) × (before ≡ (link_at links k).before) × (step_of links k ≡ j))

-- step j of a thread is noted in the row at a place: a new link keeps it, and the row begins there
pub record IsNoted (rows : List Row) (links : List Link) (x j thread : ℕ)
    (rows' : List Row) (links' : List Link) : Type 0 where
  pub before : ℕ
  pub below : IsBelow links (row_at rows x).last j before
  pub linked : links' ≡ links ++ (record { step = j; before = before }) ∷ []
  pub many : length rows' ≡ length rows
  pub here : row_at rows' x ≡
      (record { key = (row_at rows x).key; thread = thread; last = length links + 1 })
  pub others : (y : ℕ) → y ≢ x → row_at rows' y ≡ row_at rows y

-- each step of a row, of another thread than j's, with an edge to j that counts lies under the clock
abbrev pub IsRowSeen : List Footprint → List Link → Row → List ℕ → ℕ → Type 0
IsRowSeen run links row clock j =
    (k : ℕ) → IsIn links k row.last → thread_at run (step_of links k) ≢ thread_at run j → Edge run (step_of links k) j
    → Counts row.key (step_at run (step_of links k)) (step_at run j) → IsUnder run clock (step_of links k)

-- the same of the row at a place, if there is one, whose key j asks and doesn't race with
abbrev pub IsPlaceSeen : List Footprint → List Row → List Link → ℕ → List ℕ → ℕ → Type 0
IsPlaceSeen run rows links x clock j =
    x < length rows → IsTrue (asks (step_at run j) (row_at rows x).key)
    → key_races (row_at rows x).key (step_at run j) ≡ false → IsRowSeen run links (row_at rows x) clock j

-- the latest step of the row at a place, if there is one of another thread than j's, lies under a clock
abbrev pub IsPlaceKnown : List Footprint → List Row → List Link → ℕ → List ℕ → ℕ → Type 0
IsPlaceKnown run rows links x clock j =
    (k : ℕ) → x < length rows → (row_at rows x).last ≡ k + 1 → thread_at run (step_of links k) ≢ thread_at run j
    → IsUnder run clock (step_of links k)

-- the same of the rows at all of some places
abbrev pub ArePlacesKnown : List Footprint → List Row → List Link → List ℕ → List ℕ → ℕ → Type 0
ArePlacesKnown run rows links found clock j =
    (y : ℕ) → y < length found → IsPlaceKnown run rows links (slice_index found y) clock j

-- the number is beyond the latest step of the row at a place, if its key races with j and the step is a partner of j
abbrev pub IsPlaceBeyond : List Footprint → List Row → List Link → ℕ → ℕ → ℕ → Type 0
IsPlaceBeyond run rows links x j best =
    (k : ℕ) → x < length rows → key_races (row_at rows x).key (step_at run j) ≡ true → (row_at rows x).last ≡ k + 1
    → RacePair run (step_of links k) j → step_of links k < best

-- the old links, and behind them others
abbrev pub AreLonger : List Link → List Link → Type 0
AreLonger old new = (more : List Link) × (new ≡ old ++ more)

-- a number stands in a list
abbrev pub IsListed : List ℕ → ℕ → Type 0
IsListed xs x = (y : ℕ) × (y < length xs) × (slice_index xs y ≡ x)

-- all steps of the row are of a thread
abbrev pub IsOwn : Row → ℕ → Type 0
IsOwn row thread = (is_shared row.key ≡ false) × (row.thread ≡ thread)

-- the row at a place may have steps of other threads, and the step asks its key
pub record IsAsked (step : Footprint) (rows : List Row) (x : ℕ) : Type 0 where
  pub within : x < length rows
  pub apart : IsOwn (row_at rows x) step.thread → ⊥
  pub asked : IsTrue (asks step (row_at rows x).key)

-- the list has the place of each row that may have steps of other threads, and whose key the step asks
abbrev pub AreAllAsked : Footprint → List Row → List ℕ → Type 0
AreAllAsked step rows found =
    (x : ℕ) → x < length rows → (IsOwn (row_at rows x) step.thread → ⊥) → IsTrue (asks step (row_at rows x).key)
    → IsListed found x

-- each place has a row under whose key the step is noted, shared or of the step's thread, and there is one for each
-- such key
pub record ArePlaces (step : Footprint) (rows : List Row) (places : List ℕ) : Type 0 where
  pub each :
      (y : ℕ) → y < length places
      → (slice_index places y < length rows)
      × (is_shared (row_at rows (slice_index places y)).key ≡ false
      → (row_at rows (slice_index places y)).thread ≡ step.thread)
      × IsTrue (has_row step (row_at rows (slice_index places y)).key)
  pub all :
      (key : Key) → IsTrue (has_row step key)
      → (y : ℕ) × (y < length places) × ((row_at rows (slice_index places y)).key ≡ key)

-- as many rows, of the same keys, and of the same threads where the keys aren't shared
pub record HaveKeysOf (old new : List Row) : Type 0 where
  pub many : length new ≡ length old
  pub key : (x : ℕ) → (row_at new x).key ≡ (row_at old x).key
  pub thread :
      (x : ℕ) → is_shared (row_at old x).key ≡ false → (row_at new x).thread ≡ (row_at old x).thread

-- the rows while step j is noted: they are those of the steps before j, in which j itself may stand too
pub record ArePartly (run : List Footprint) (j : ℕ) (rows : List Row) (links : List Link) : Type 0 where
  pub chained : AreLinks links
  pub each : (x : ℕ) → x < length rows → IsRow run (j + 1) links (row_at rows x)
  pub held : (i : ℕ) (key : Key) → i < j → IsTrue (has_row (step_at run i) key) → IsHeld run rows links i key
