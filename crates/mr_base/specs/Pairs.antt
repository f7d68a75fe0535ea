-- Whether a test holds of two elements of a list.
use Rattle.std.specs.Prelude.{ℕ, ◌+◌, Bool, false, ◌&&◌, ◌||◌, ◌==◌, nat_lt, if◌then◌else◌, List, [], ◌∷◌}
use Rattle.std.specs.List.{list_any}
use Rattle.std.specs.Ordering.{nat_cmp, ordering_then}
use Rattle.std.specs.declared.cmp.Ordering.{Ordering}

-- whether the test holds of an element and a later one
abbrev pub some_pair : {A : Type 0} → (A → A → Bool) → List A → Bool
some_pair test [] = false
some_pair test (x ∷ xs) = list_any (test x) xs || some_pair test xs

-- whether the test holds of this element and the first, or of an element and the next
abbrev pub some_next : {A : Type 0} → (A → A → Bool) → A → List A → Bool
some_next test x [] = false
some_next test x (y ∷ ys) = test x y || some_next test y ys

-- whether the test holds of an element and the next
abbrev pub some_neighbours : {A : Type 0} → (A → A → Bool) → List A → Bool
some_neighbours test [] = false
some_neighbours test (x ∷ xs) = some_next test x xs

-- whether the two pairs are equal
abbrev pub same_pair : ℕ × ℕ → ℕ × ℕ → Bool
same_pair x y = (x.0 == y.0) && (x.1 == y.1)

-- the order of pairs: by their first numbers, and where these are equal by the second ones
abbrev pub pair_cmp : ℕ × ℕ → ℕ × ℕ → Ordering
pair_cmp x y = ordering_then (nat_cmp x.0 y.0) (nat_cmp x.1 y.1)

-- two ranges, by start and length, have a byte in common; a range of length 0 has none
abbrev pub is_meeting : ℕ → ℕ → ℕ → ℕ → Bool
is_meeting a len b count = nat_lt 0 len && (nat_lt 0 count && (nat_lt a (b + count) && nat_lt b (a + len)))

-- the same of two pairs
abbrev pub are_meeting : ℕ × ℕ → ℕ × ℕ → Bool
are_meeting x y = is_meeting x.0 x.1 y.0 y.1

-- the ranges that have a byte
abbrev pub not_empty : List (ℕ × ℕ) → List (ℕ × ℕ)
not_empty [] = []
not_empty (r ∷ ranges) = if nat_lt 0 r.1 then r ∷ not_empty ranges else not_empty ranges
