-- The ends of the runs of some numbers: how many of them have each kind, and which one is the first.
use Rattle.std.specs.Prelude.{◌≡◌, ℕ, ◌+◌, ◌-◌, ◌<◌, ◌≤◌, Bool, true, false, not, if◌then◌else◌}
use Rattle.std.specs.Prelude.{List, [], ◌∷◌, ◌++◌, All, count_by, flat_map, map}
use Rattle.std.specs.List.{filter, list_any, range_with_len}
use Rattle.mr_hunt.specs.declared.ends.End.{End}
use Rattle.mr_hunt.specs.declared.counting.Row.{Row}
use Rattle.mr_hunt.specs.Ends.{same_end}

-- the numbers from one to another
abbrev pub numbers : ℕ → ℕ → List ℕ
numbers from to = range_with_len from (to + 1 - from)

-- whether the run of a number has an end of this kind
abbrev pub has_end : (ℕ → List End) → End → ℕ → Bool
has_end ends e n = list_any (same_end e) (ends n)

-- the first of some numbers that passes a test, and 0 where none does
abbrev pub first_of : (ℕ → Bool) → List ℕ → ℕ
first_of test [] = 0
first_of test (n ∷ ns) = if test n then n else first_of test ns

-- HOW MANY OF THESE NUMBERS have an end of this kind, and the first of them
abbrev pub row_of : (ℕ → List End) → List ℕ → End → Row
row_of ends ns e = record {
  end = e;
  count = count_by (has_end ends e) ns;
  first = first_of (has_end ends e) ns;
}

-- whether an end is of another kind
abbrev pub is_other : End → End → Bool
is_other e x = not (same_end x e)

-- some ends, without those that are of the kind of an earlier one
abbrev pub once : List End → List End
once [] = []
once (e ∷ es) = e ∷ filter (is_other e) (once es)

-- THE TABLE of some numbers, whose runs show these ends: a row for each kind that one of them has, in the order in
-- which the kinds come first
abbrev pub table_of : (ℕ → List End) → List ℕ → List Row
table_of ends ns = map (row_of ends ns) (once (flat_map ends ns))

-- ---- what it says

-- A ROW OF THE NUMBERS from one to another: so many of them have an end of its kind, and the first one is the least
pub record IsRow (ends : ℕ → List End) (from to : ℕ) (r : Row) : Type 0 where
  pub count : r.count ≡ count_by (has_end ends r.end) (numbers from to)
  pub not_before : from ≤ r.first
  pub not_behind : r.first ≤ to
  pub has : has_end ends r.end r.first ≡ true
  pub least : (n : ℕ) → from ≤ n → n < r.first → has_end ends r.end n ≡ false

-- whether one of these rows is of the kind of an end
abbrev pub is_listed : List Row → End → Bool
is_listed rows e = list_any (λ r. same_end e r.end) rows

-- EACH ROW is one of these numbers, and each end that the run of one of them has is of the kind of a row
pub record IsTable (ends : ℕ → List End) (from to : ℕ) (table : List Row) : Type 0 where
  pub rows : All (IsRow ends from to) table
  pub each : (n : ℕ) → from ≤ n → n ≤ to → (e : End) → has_end ends e n ≡ true → is_listed table e ≡ true

-- ---- one number more

-- a row, with one more number, whose run shows these ends
abbrev pub counted : List End → Row → Row
counted es r =
    if list_any (same_end r.end) es then record { end = r.end; count = r.count + 1; first = r.first } else r

-- a row of an end of a further number, where none is listed
abbrev pub new_row : List Row → ℕ → End → List Row
new_row rows number e = if is_listed rows e then [] else record { end = e; count = 1; first = number } ∷ []

-- the rows with a further number, whose run shows these ends
abbrev pub joined : List Row → List End → ℕ → List Row
joined rows es number = map (counted es) rows ++ flat_map (new_row rows number) (once es)
