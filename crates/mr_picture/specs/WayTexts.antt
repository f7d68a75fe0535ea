-- What is said of the order of two steps.
use Rattle.std.specs.Prelude.{ℕ, ◌&&◌, nat_lt, if◌then◌else◌, List, [], ◌∷◌, ◌++◌, codes, decimal, length, slice_get}
use Rattle.mr_event.specs.Order.{thread_at}
use Rattle.mr_event.specs.Predicted.{happens_before}
use Rattle.mr_event.specs.Footprint.{Footprint}
use Rattle.mr_listing.specs.Races.{before_of}
use Rattle.mr_listing.specs.Seen.{Seen}
use Rattle.mr_listing.specs.Spots.{stand_text}
use Rattle.mr_picture.specs.declared.because.Because.{Because}
use Rattle.mr_picture.specs.declared.because.Because.TheVariants as because
use Rattle.mr_picture.specs.Lanes.{thread_word}
use Rattle.mr_picture.specs.Texts.{step_word}
use Rattle.mr_picture.specs.Way.{because_of, way}

-- a reason in words, as it stands behind the later step
abbrev pub because_word : Because → List ℕ
because_word because.Thread = codes "in the same thread"
because_word because.Woken = codes "woken or started by it"
because_word because.Lock = codes "by their lock"
because_word because.Locks = codes "both create a lock"
because_word because.Starts = codes "both start a thread"
because_word because.Join = codes "by a join"
because_word because.Access = codes "by what they load and store"
because_word because.Allocation = codes "by an allocation"

-- where a step is: its number, its thread
abbrev pub step_place : Seen → ℕ → List ℕ
step_place s k = step_word k ++ codes ", " ++ thread_word (thread_at s.feet k)

-- its statement, at the end of a line
abbrev pub step_stand : Seen → ℕ → List ℕ
step_stand s k = codes "  " ++ stand_text s (before_of (slice_get s.stands k)) ++ codes "\n"

-- the line of a step on the way, behind the one before it
abbrev pub way_line : Seen → ℕ → ℕ → List ℕ
way_line s i k = step_place s k ++ codes ", " ++ because_word (because_of s.feet i k) ++ step_stand s k

-- the lines of all steps on the way
abbrev pub way_lines : Seen → ℕ → List ℕ → List ℕ
way_lines s i [] = []
way_lines s i (k ∷ rest) = way_line s i k ++ way_lines s k rest

-- two steps
abbrev pub both_steps : ℕ → ℕ → List ℕ
both_steps i j = step_word i ++ codes " and " ++ step_word j

abbrev pub unordered_line : ℕ → ℕ → List ℕ
unordered_line i j = both_steps i j ++ codes ": nothing orders them\n"

abbrev pub unfit_line : ℕ → ℕ → ℕ → List ℕ
unfit_line i j count =
    both_steps i j ++ codes ": the first must be earlier, and " ++ decimal count ++ codes " steps were completed\n"

-- where the first happens before the second, the way; and else that it doesn't
abbrev pub ordered_text : Seen → ℕ → ℕ → List ℕ
ordered_text s i j =
    if happens_before s.feet i j then step_place s i ++ step_stand s i ++ way_lines s i (way s.feet i j)
    else unordered_line i j

-- THE ORDER OF TWO STEPS of a run, the first of which is the earlier one
abbrev pub order_text : Seen → ℕ → ℕ → List ℕ
order_text s i j =
    if nat_lt i j && nat_lt j (length s.feet) then ordered_text s i j else unfit_line i j (length s.feet)
