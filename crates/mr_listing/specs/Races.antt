-- The races of a run by pairs of places, as they are written: those with most races first.
use Rattle.std.specs.Prelude.{ℕ, zero, suc, ◌+◌, ◌==◌, ◌&&◌, Bool, true, false, if◌then◌else◌, List, [], ◌∷◌, ◌++◌, flat_map}
use Rattle.std.specs.Prelude.{codes, count_by, decimal, length, take, Option, None, Some, slice_get}
use Rattle.std.specs.List.{filter, list_any, range_with_len}
use Rattle.mr_event.specs.declared.footprint.Pair.{Pair}
use Rattle.mr_report.specs.Report.{count_line}
use Rattle.mr_labels.specs.declared.step.Stand.{Stand}
use Rattle.mr_listing.specs.declared.pairs.Group.{Group}
use Rattle.mr_listing.specs.Seen.{Seen}
use Rattle.mr_listing.specs.Spots.{stand_text}

-- where the thread of a step stood before it, where there is such a step
abbrev pub before_of : Option (Option Stand) → Option Stand
before_of None = None
before_of (Some stand) = stand

-- whether a thread stands nowhere
abbrev pub is_nowhere : Option Stand → Bool
is_nowhere None = true
is_nowhere (Some a) = false

-- whether a thread stands at this place of the program, whatever its number is
abbrev pub is_at : Stand → Option Stand → Bool
is_at a None = false
is_at a (Some b) = (a.function == b.function) && ((a.block == b.block) && (a.at == b.at))

-- whether two threads stand at one place of the program, or both nowhere
abbrev pub same_stand : Option Stand → Option Stand → Bool
same_stand None b = is_nowhere b
same_stand (Some a) b = is_at a b

-- WHETHER TWO RACES ARE OF THE SAME TWO PLACES: the first steps of both stand at one place, and so do the second ones
abbrev pub same_places : Seen → Pair → Pair → Bool
same_places s a b =
    same_stand (before_of (slice_get s.stands a.first)) (before_of (slice_get s.stands b.first))
    && same_stand (before_of (slice_get s.stands a.second)) (before_of (slice_get s.stands b.second))

-- ---- groups

-- the races at the places of a race
abbrev pub group_of : Seen → Pair → Group
group_of s pair = record { first = pair; count = count_by (same_places s pair) s.races }

-- they go by the first of them: another one begins no group
abbrev pub first_group : Seen → ℕ → Option Pair → List Group
first_group s number None = []
first_group s number (Some pair) =
    if list_any (same_places s pair) (take number s.races) then [] else group_of s pair ∷ []

abbrev pub numbered_group : Seen → ℕ → List Group
numbered_group s number = first_group s number (slice_get s.races number)

-- THE RACES BY PAIRS OF PLACES, in the order of the first race of each
abbrev pub groups : Seen → List Group
groups s = flat_map (numbered_group s) (range_with_len 0 (length s.races))

-- whether a race is of the places of a group
abbrev pub is_in_group : Seen → Pair → Group → Bool
is_in_group s pair g = same_places s g.first pair

-- ---- their order

-- whether there are so many races at its places
abbrev pub has_count : ℕ → Group → Bool
has_count count g = g.count == count

-- those of so many races, then those of one less, and so on down to none, each time in the order in which they stand
abbrev pub by_count : ℕ → List Group → List Group
by_count zero gs = filter (has_count 0) gs
by_count (suc count) gs = filter (has_count (suc count)) gs ++ by_count count gs

-- THE ORDER in which they are written: those with most races first, and of those with as many the one with
-- the first race
abbrev pub ranked : Seen → List Group
ranked s = by_count (length s.races) (groups s)

-- ---- lines

-- how many races there are
abbrev pub often_text : ℕ → List ℕ
often_text count = if count == 1 then codes "once, " else decimal count ++ codes " times, first "

-- and the steps of the first, counted from 1
abbrev pub times_text : Group → List ℕ
times_text g =
    often_text g.count ++ decimal (g.first.first + 1) ++ codes " " ++ decimal (g.first.second + 1) ++ codes "\n"

-- `PLACE  /  PLACE: COUNT times, first STEP STEP`
abbrev pub group_line : Seen → Group → List ℕ
group_line s g =
    stand_text s (before_of (slice_get s.stands g.first.first)) ++ codes "  /  "
    ++ stand_text s (before_of (slice_get s.stands g.first.second)) ++ codes ": " ++ times_text g

-- THE RACES BY PAIRS OF PLACES, as they are written where it is told where all threads stood: a line for each pair of
-- places, those with most races first; and how many races there are
abbrev pub races_text : Seen → List ℕ
races_text s = flat_map (group_line s) (ranked s) ++ count_line s.races
