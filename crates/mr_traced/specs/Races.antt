-- The races of a trace by pairs of places, as they are written.
use Rattle.std.specs.Prelude.{◌≡◌, ℕ, ◌-◌, nat_lt, if◌then◌else◌, List, [], ◌++◌, codes, decimal, flat_map, length}
use Rattle.std.specs.Prelude.{take}
use Rattle.std.specs.Prelude.{Option, None, Some, slice_get}
use Rattle.mr_base.specs.declared.access.Access.{Access}
use Rattle.mr_event.specs.Footprint.{Footprint}
use Rattle.mr_listing.specs.ReportReport.{count_line}
use Rattle.mr_listing.specs.declared.pairs.Group.{Group}
use Rattle.mr_listing.specs.Races.{by_count, times_text}
use Rattle.mr_traced.specs.Groups.{AreGroups, groups}
use Rattle.mr_traced.specs.Names.{place_text}
use Rattle.mr_traced.specs.Seen.{Seen}
use Rattle.mr_traced.specs.Steps.{access_line, head_line}

-- how many accesses are left
abbrev pub left_text : ℕ → List ℕ
left_text left = codes "        and " ++ decimal left ++ codes " more\n"

-- the same of so many, of which 8 are told
abbrev pub more_text : ℕ → List ℕ
more_text count = if nat_lt 8 count then left_text (count - 8) else []

-- the first accesses of a step
abbrev pub few_text : List Access → List ℕ
few_text accesses = flat_map access_line (take 8 accesses) ++ more_text (length accesses)

abbrev pub side_foot : Option Footprint → List ℕ
side_foot None = []
side_foot (Some foot) = few_text foot.accesses

-- a step of a race: where it is, and its accesses
abbrev pub side_text : Seen → ℕ → List ℕ
side_text s number = codes "    " ++ head_line s number ++ side_foot (slice_get s.run number)

-- `PLACE  /  PLACE: COUNT times, first STEP STEP`, and these two steps
abbrev pub group_text : Seen → Group → List ℕ
group_text s g =
    place_text s (slice_get s.sites g.first.first) ++ codes "  /  "
    ++ place_text s (slice_get s.sites g.first.second) ++ codes ": " ++ times_text g ++ side_text s g.first.first
    ++ side_text s g.first.second

-- those with most races first, and of those with as many the one with the lower numbers of places; and how many races
-- there are
abbrev pub races_text : Seen → List ℕ
races_text s = flat_map (group_text s) (by_count (length s.races) (groups s)) ++ count_line s.races

-- THE RACES BY PAIRS OF PLACES, as they are written
abbrev pub IsRacesText : Seen → List ℕ → Type 0
IsRacesText s text = AreGroups s (groups s) × (text ≡ races_text s)
