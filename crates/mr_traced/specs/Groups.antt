-- The races of a trace by pairs of places.
use Rattle.std.specs.Prelude.{◌≡◌, ℕ, ◌+◌, ◌==◌, ◌&&◌, Bool, true, List, map, All, count_by, Option, None, Some}
use Rattle.std.specs.Prelude.{slice_get}
use Rattle.std.specs.FinMap as fin
use Rattle.std.specs.List.{Any, find}
use Rattle.std.specs.List.Sorted.{IsStrictlySortedBy}
use Rattle.std.specs.Ordering.{nat_cmp, ordering_then}
use Rattle.std.specs.declared.cmp.Ordering.{Ordering}
use Rattle.mr_event.specs.declared.footprint.Pair.{Pair}
use Rattle.mr_listing.specs.declared.pairs.Group.{Group}
use Rattle.mr_traced.specs.declared.count.Both.{Both}
use Rattle.mr_traced.specs.declared.form.Site.{Site}
use Rattle.mr_traced.specs.Seen.{Seen}

-- the number of the place of a site; 0 where there is none
abbrev pub place_in : Option Site → ℕ
place_in None = 0
place_in (Some site) = site.place

-- the places of the two steps of a race
abbrev pub both_of : Seen → Pair → Both
both_of s pair =
    record { first = place_in (slice_get s.sites pair.first); second = place_in (slice_get s.sites pair.second) }

-- whether they are the same
abbrev pub same_both : Both → Both → Bool
same_both a b = (a.first == b.first) && (a.second == b.second)

-- whether a race is of two places
abbrev pub is_at : Seen → Both → Pair → Bool
is_at s both pair = same_both both (both_of s pair)

-- how two places lie to two others: by the numbers of the first ones, then by those of the second ones
abbrev pub both_cmp : Both → Both → Ordering
both_cmp a b = ordering_then (nat_cmp a.first b.first) (nat_cmp a.second b.second)

-- the races that pass a test, of which this is the first: it, and how many there are
abbrev pub grouped : (Pair → Bool) → List Pair → Option Pair → Option Group
grouped test races None = None
grouped test races (Some first) = Some (record { first = first; count = count_by test races })

-- the races of two places, if there is one
abbrev pub group_at : Seen → Both → List Pair → Option Group
group_at s both races = grouped (is_at s both) races (find (is_at s both) races)

-- of each two places this is the group of the races
abbrev pub AreCounts : Seen → (Both → Option Group) → Type 0
AreCounts s at = (both : Both) → at both ≡ group_at s both s.races

-- how many races a group has, if there is one
abbrev pub count_of : Option Group → ℕ
count_of None = 0
count_of (Some group) = group.count

-- the same with one more race of these places, which the code counts
abbrev pub raised : Option Group → Pair → Group
raised None pair = record { first = pair; count = 1 }
raised (Some group) pair = record { first = group.first; count = group.count + 1 }

-- ---- all groups

abbrev pub first_or : Pair → Option Pair → Pair
first_or pair None = pair
first_or pair (Some first) = first

-- the races at the places of a race
abbrev pub group_of : Seen → Pair → Group
group_of s pair = record {
  first = first_or pair (find (is_at s (both_of s pair)) s.races);
  count = count_by (is_at s (both_of s pair)) s.races;
}

-- the places of a race, with the races there
abbrev pub placed : Seen → Pair → Both × Group
placed s pair = (both_of s pair, group_of s pair)

-- THE RACES BY PAIRS OF PLACES: the groups of the places of all races, each once, by rising numbers of places
abbrev pub groups : Seen → List Group
groups s = fin.values (fin.from_entries {R = both_cmp} (map (placed s) s.races))

-- WHAT THEY ARE
pub record AreGroups (s : Seen) (groups : List Group) : Type 0 where
  -- each has the first race of its places, and how many there are
  pub right : All (λ g. group_at s (both_of s g.first) s.races ≡ Some g) groups
  -- no two are of the same places, since their numbers rise
  pub rising : IsStrictlySortedBy both_cmp (map (λ g. both_of s g.first) groups)
  -- and each race is of the places of one
  pub whole : All (λ pair. Any (λ g. is_at s (both_of s g.first) pair ≡ true) groups) s.races
