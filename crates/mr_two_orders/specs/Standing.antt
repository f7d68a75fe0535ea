-- What is said of the races at two places by two orders: which of the two lists has some there, and why the other has
-- none.
use Rattle.std.specs.Prelude.{ℕ, ◌==◌, ◌&&◌, nat_lt, if◌then◌else◌, Bool, List, [], ◌++◌, codes, decimal, length}
use Rattle.std.specs.Prelude.{Option, None, Some}
use Rattle.mr_event.specs.Footprint.{Footprint}
use Rattle.mr_event.specs.declared.footprint.Pair.{Pair}
use Rattle.mr_rust_order.specs.Gaps.{first_gap}
use Rattle.mr_listing.specs.declared.pairs.Group.{Group}
use Rattle.mr_picture.specs.Texts.{step_word}
use Rattle.mr_picture.specs.Way.{because_of, way}
use Rattle.mr_picture.specs.WayTexts.{because_word}
use Rattle.mr_two_orders.specs.Pairs.{partner}

-- `step 4 comes before step 7`
abbrev pub before_text : Pair → List ℕ
before_text pair = step_word pair.first ++ codes " comes before " ++ step_word pair.second

-- `the machine's lists step 7 with step 6`, by the list's name
abbrev pub lists_text : List ℕ → ℕ → ℕ → List ℕ
lists_text list step other = list ++ codes " lists " ++ step_word step ++ codes " with " ++ step_word other

-- ---- why the machine's order has two steps in order

-- `, since step 5 comes before step 6: by what they load and store`
abbrev pub link_text : List Footprint → Pair → List ℕ
link_text run link =
    codes ", since " ++ before_text link ++ codes ": " ++ because_word (because_of run link.first link.second)

abbrev pub gap_text : List Footprint → Option Pair → List ℕ
gap_text run None = []
gap_text run (Some link) = link_text run link

-- the first link of the machine's way from the one to the other that Rust's order hasn't
abbrev pub since_text : List Footprint → Pair → List ℕ
since_text run pair = gap_text run (first_gap run pair.first (way run pair.first pair.second))

-- the same, where it is told and both are steps of the run
abbrev pub reason_text : Bool → List Footprint → Pair → List ℕ
reason_text told run pair =
    if told && nat_lt pair.first (length run) && nat_lt pair.second (length run) then since_text run pair else []

-- ---- one list alone

-- the other order has the two steps in order
abbrev pub in_machine : Bool → List Footprint → Pair → List ℕ
in_machine told run pair = codes "in the machine's " ++ before_text pair ++ reason_text told run pair

abbrev pub in_rust : Pair → List ℕ
in_rust pair = codes "in Rust's " ++ before_text pair

-- WHY THE MACHINE'S LIST hasn't a race of Rust's, by the step with which it has the second one: it is a later one than
-- the first, or the machine's order has the two in order
abbrev pub machine_why : Bool → List Footprint → Pair → Option ℕ → List ℕ
machine_why told run pair None = in_machine told run pair
machine_why told run pair (Some other) =
    if nat_lt pair.first other then lists_text (codes "the machine's") pair.second other
    else in_machine told run pair

-- WHY RUST'S LIST hasn't a race of the machine's, likewise
abbrev pub rust_why : Pair → Option ℕ → List ℕ
rust_why pair None = in_rust pair
rust_why pair (Some other) =
    if nat_lt pair.first other then lists_text (codes "Rust's") pair.second other else in_rust pair

-- ---- lines

-- `both: 2 by Rust's order, 3 by the machine's`
abbrev pub both_text : ℕ → ℕ → List ℕ
both_text rust machine =
    codes "both: " ++ decimal rust ++ codes " by Rust's order, " ++ decimal machine ++ codes " by the machine's"

-- Rust's alone
abbrev pub rust_alone : Bool → List Footprint → List Pair → Pair → List ℕ
rust_alone told run machine pair =
    codes "Rust's order alone: " ++ machine_why told run pair (partner machine pair.second)

-- the races at two places, of which Rust's list has a group and the machine's so many
abbrev pub standing : Bool → List Footprint → List Pair → Group → ℕ → List ℕ
standing told run machine g count =
    if count == 0 then rust_alone told run machine g.first else both_text g.count count

-- THE LINE BELOW A GROUP of Rust's list, by the machine's list and how many of its races are of the same places
abbrev pub rust_line : Bool → List Footprint → List Pair → Group → ℕ → List ℕ
rust_line told run machine g count = codes "        " ++ standing told run machine g count ++ codes "\n"

-- THE LINE BELOW A GROUP of the machine's list alone, by Rust's list
abbrev pub machine_line : List Pair → Pair → List ℕ
machine_line rust pair =
    codes "        the machine's order alone: " ++ rust_why pair (partner rust pair.second) ++ codes "\n"

-- ---- the first line

-- `1 race`, `2 races`
abbrev pub races_word : ℕ → List ℕ
races_word n = if n == 1 then codes "1 race" else decimal n ++ codes " races"

-- `1 pair of places`, `2 pairs of places`
abbrev pub places_word : ℕ → List ℕ
places_word n = if n == 1 then codes "1 pair of places" else decimal n ++ codes " pairs of places"

abbrev pub count_text : ℕ → ℕ → List ℕ
count_text races places = races_word races ++ codes " at " ++ places_word places

-- THE FIRST LINE: how many races each list has, at how many pairs of places
abbrev pub head_line : ℕ → ℕ → ℕ → ℕ → List ℕ
head_line rust rust_places machine machine_places =
    codes "Rust's order: " ++ count_text rust rust_places ++ codes "; the machine's: "
    ++ count_text machine machine_places ++ codes "\n"
