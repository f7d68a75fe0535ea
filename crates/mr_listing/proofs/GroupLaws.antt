-- The groups of races: how many each has.
use Rattle.mr_listing.proofs.Common.{ℕ, ◌≤◌, Bool, true, false, List, [], ◌∷◌, length, All, if◌then◌else◌, flat_map, Option, None, Some, slice_get, take, list_any, range_with_len, IsPermutation, Pair, Group, first_group, group_of, groups, numbered_group, same_places, Seen}
use Rattle.std.proofs.lemmas.List.Elements.{All-append, All-cons, All-nil}
use Rattle.std.proofs.lemmas.List.Sums.{count_by-le-length}
use Rattle.mr_listing.specs.Races.{ranked}
use Rattle.mr_listing.proofs.RankLaws.{by_count_permutes}

all_flat : {X Y : Type 0} (P : Y → Type 0) (f : X → List Y) → ((x : X) → All P (f x)) → (xs : List X) → All P (flat_map f xs)
all_flat P f each [] = All-nil P
all_flat P f each (x ∷ xs) = All-append P (f x) (flat_map f xs) (each x) (all_flat P f each xs)

module _ (s : Seen) where
  abbrev IsFew : Group → Type 0
  IsFew g = g.count ≤ length s.races

  few_of : (pair : Pair) → IsFew (group_of s pair)
  few_of pair = count_by-le-length (same_places s pair) s.races

  few_first : (number : ℕ) (pair : Option Pair) → All IsFew (first_group s number pair)
  few_first number None = All-nil IsFew
  few_first number (Some pair) = by_test (list_any (same_places s pair) (take number s.races))
    where
      by_test : (b : Bool) → All IsFew (if b then [] else group_of s pair ∷ [])
      by_test true = All-nil IsFew
      by_test false = All-cons IsFew (group_of s pair) [] (few_of pair) (All-nil IsFew)

  -- none has more races than there are
  pub few_races : All (λ (g : Group). g.count ≤ length s.races) (groups s)
  few_races =
      all_flat IsFew (numbered_group s) (λ number. few_first number (slice_get s.races number))
      (range_with_len 0 (length s.races))

  -- THE ORDER of the groups is a permutation of them
  pub ranked_permutes : IsPermutation (groups s) (ranked s)
  ranked_permutes = by_count_permutes (length s.races) (groups s) few_races
