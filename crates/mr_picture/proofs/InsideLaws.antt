-- Each mark of a picture lies inside it.
use Rattle.mr_picture.proofs.Common.{◌≡◌, ℕ, zero, suc, ◌+◌, ◌-◌, ◌*◌, ◌<◌, ◌≤◌, ◌^◌, Bool, true, false, List, [], ◌∷◌, ◌++◌, length, map, refl, ap, arith, and_parts, length-append, All-weaker, ◌==◌, All, Option, None, Some, codes, decimal, flat_map, if◌then◌else◌, nat_le, nat_lt, slice_get, Contains, filter, range_with_len, Pair, thread_at, Seen, Span, arrows, holds_race, is_in, races_in, steps_in, left_out, witness_steps, Point, Diamond, Dot, Words, Mark, Drawn, column_marks, column_name, column_place, column_race, kept_mark, kept_marks, kept_number, left_mark, left_marks, left_number, rows_marks, behind_line, first_line, head_marks, line_marks, part_mark, tail_mark, title_mark, row_y, rows_end, tail_count, ends, first_that, lane_mark, lane_marks, name_mark, starts, arrow_entry, legend_marks, middle, race_entry, sample, words_mark, arrow_mark, drawn_races, foot_place, is_wake, race_mark, drawn_steps, sketch_of, round_marks, Scene, Sketch, done_in, race_in, scene_of, takes_one, did_mark, mark_of, number_mark, row_marks, stand_mark, step_mark, step_marks, cut_at, as_written, drawn_marks, legend_row}
use Rattle.std.proofs.Common.{lit≤}
use Rattle.std.proofs.lemmas.Fmt.{length-decimal-le}
use Rattle.std.proofs.lemmas.List.Elements.{All-append, All-cons, All-contains, All-filter, All-from_recursion, All-head, All-map, All-nil, All-tail, filter_passes}
use Rattle.std.proofs.lemmas.List.Sums.{count_by-le-length}
use Rattle.std.specs.Prelude.{◌%◌, IfSome}
use Rattle.mr_labels.specs.declared.step.ToldStep.{ToldStep}
use Rattle.mr_svg.specs.declared.shape.Shape.{Shape}
use Rattle.mr_svg.specs.declared.shape.Sign.{Sign}
use Rattle.mr_picture.specs.declared.steps.Part.{Part}
use Rattle.mr_picture.specs.Column.{column_of, is_of_race, kept_shape, number_place}
use Rattle.mr_picture.specs.Ends.{line_room, names_mark, names_marks, part_text, title_text}
use Rattle.mr_picture.specs.Grid.{column_width, column_x, lane_x, legend_y, place_of, tail_y, text_x, width}
use Rattle.mr_picture.specs.Inside.{IsInside, IsLineInside, IsPointInside, IsRoundInside, IsShapeInside}
use Rattle.mr_picture.specs.Lanes.{row_or, short_name}
use Rattle.mr_picture.specs.Legend.{has_sign, height, is_arrow, is_race, left_end, legend_order, linked, part_with, right_end}
use Rattle.mr_picture.specs.Legend.{sign_text, step_entry}
unfoldable use Rattle.mr_picture.specs.Legend.{legend_signs}
use Rattle.mr_picture.specs.Drawn.{asked_scene, drawn_of, is_drawn}
use Rattle.mr_listing.specs.declared.held.StepValues.{StepValues}
use Rattle.mr_picture.specs.Picture.{marks}
use Rattle.mr_picture.specs.Scene.{begin_at, chosen, clipped}
use Rattle.mr_picture.specs.Steps.{did_line, part_of, part_shape, row_mark}
use Rattle.mr_picture.specs.Texts.{cut}
use Rattle.mr_picture.proofs.ArrowLaws.{arrow_is}
use Rattle.mr_picture.proofs.Members.{from_flat, from_range}
use Rattle.mr_picture.proofs.Counts.{rows_few}
use Rattle.mr_picture.proofs.Within.{each, from_filter, from_take, left_below, witness_below}
use Rattle.mr_svg.specs.declared.shape.Sign.TheVariants as sign
use Rattle.mr_picture.specs.declared.steps.Part.TheVariants as part
use Rattle.mr_picture.proofs.Room.{IsPlace, arrow_inside, cut_short, in_part, race_inside, round_inside}

-- ---- the scene

-- what is drawn of a run: steps of a part, which has so few; and the races are among those that completed
pub record IsLaid (s : Scene) : Type 0 where
  pub few : s.span.to ≤ 2 ^ 22
  pub front : s.done.from ≡ s.span.from
  pub back : s.done.to ≤ s.span.to
  pub steps : All (λ d. (s.span.from ≤ d.number) × (d.number < s.span.to)) s.steps
  pub threads : All (λ t. t < 1024) s.threads
  pub first : IfSome s.first (λ r. holds_race s.done r ≡ true)

clipped_to : (count from to : ℕ) → (clipped count from to).to ≤ count
clipped_to count from to = omega arith

chosen_to : (count : ℕ) (races : List Pair) (asked : Option Span) → (chosen count races asked).to ≤ count
chosen_to count races None = clipped_to count (if nat_le count 500 then 0 else begin_at (slice_get races 0)) count
chosen_to count races (Some span) = clipped_to count span.from span.to

numbers_below : (n : ℕ) → All (λ t. t < n) (range_with_len 0 n)
numbers_below n = each (λ t. t < n) (range_with_len 0 n) (λ t h. let is = from_range 0 n t h in omega (arith, is))

pub race_held : (done : Span) (o : Option Pair) → IfSome (race_in done o) (λ r. holds_race done r ≡ true)
race_held done None = tt
race_held done (Some race) = by (holds_race done race) refl
  where
    by : (b : Bool) → holds_race done race ≡ b
        → IfSome (if b then Some race else None) (λ r. holds_race done r ≡ true)
    by true e = e
    by false e = tt

pub steps_are : (s : Seen) (values : List StepValues) (span : Span) (steps : List ToldStep)
    → All (λ d. (span.from ≤ d.number) × (d.number < span.to)) (drawn_steps s values span steps)
steps_are s values span steps =
    All-map (λ d. (span.from ≤ d.number) × (d.number < span.to)) (drawn_of s values) (filter (is_drawn span) steps)
    (All-weaker (λ t. is_drawn span t ≡ true) (λ t. (span.from ≤ t.number) × (t.number < span.to))
    (λ t e. in_part span t.number e) (filter (is_drawn span) steps) (filter_passes (is_drawn span) steps))

laid_of : (s : Sketch) (span : Span) (steps : List Drawn) → span.to ≤ 2 ^ 22
    → All (λ d. (span.from ≤ d.number) × (d.number < span.to)) steps → IsLaid (scene_of s span steps)
laid_of s span steps few within = record {
  few = few;
  front = refl;
  back = omega arith;
  steps = within;
  threads =
      All-filter (takes_one steps) (λ t. t < 1024) (range_with_len 0 1024) (numbers_below 1024);
  first = race_held (done_in span (length s.feet)) (slice_get s.races 0);
}

-- ---- lists of marks

all_flat : {X Y : Type 0} (P : Y → Type 0) (f : X → List Y) (xs : List X) → ((x : X) → Contains xs x → All P (f x))
    → All P (flat_map f xs)
all_flat P f xs h =
    each P (flat_map f xs) (λ y there.
    let t = from_flat f xs y there in
    All-contains P (f t.0) y (h t.0 t.1) t.2)

all_mapped : {X Y : Type 0} (P : Y → Type 0) (f : X → Y) (xs : List X) → ((x : X) → Contains xs x → P (f x))
    → All P (map f xs)
all_mapped P f xs h = All-map P f xs (each (λ x. P (f x)) xs h)

module _ (P : Mark → Type 0) where
  all_two : (a b : Mark) → P a → P b → All P (a ∷ b ∷ [])
  all_two a b ha hb = All-cons P a (b ∷ []) ha (All-cons P b [] hb (All-nil P))

  all_three : (a b c : Mark) → P a → P b → P c → All P (a ∷ b ∷ c ∷ [])
  all_three a b c ha hb hc = All-cons P a (b ∷ c ∷ []) ha (all_two b c hb hc)

  all_four : (a b c d : Mark) → P a → P b → P c → P d → All P (a ∷ b ∷ c ∷ d ∷ [])
  all_four a b c d ha hb hc hd = All-cons P a (b ∷ c ∷ d ∷ []) ha (all_three b c d hb hc hd)

-- marks that stand one a row
rows_inside : {X : Type 0} (P : Mark → Type 0) (Q : X → Type 0) (marks : ℕ → X → List Mark) (rows : ℕ)
    → ((row : ℕ) (x : X) → row < rows → Q x → All P (marks row x))
    → (row : ℕ) (xs : List X) → row + length xs ≤ rows → All Q xs → All P (rows_marks marks row xs)
rows_inside P Q marks rows f row [] le h = All-nil P
rows_inside P Q marks rows f row (x ∷ xs) le h =
    All-append P (marks row x) (rows_marks marks (row + 1) xs)
    (f row x (omega (arith, le)) (All-head Q x xs h))
    (rows_inside P Q marks rows f (row + 1) xs (omega (arith, le)) (All-tail Q x xs h))

-- ---- a scene's room

abbrev pub IsIn : Scene → Mark → Type 0
IsIn s m = IsInside (width s) (height s) m

wide_enough : (s : Scene) → text_x s + 520 ≤ width s
wide_enough s = omega arith

high_enough : (s : Scene) → rows_end s + 80 ≤ height s
high_enough s = omega arith

text_behind : (s : Scene) → 80 ≤ text_x s
text_behind s = omega arith

lane_left : (threads : List ℕ) (thread : ℕ) → 80 ≤ lane_x threads thread
lane_left threads thread = omega arith

lane_right : (s : Scene) (thread : ℕ) → lane_x s.threads thread ≤ text_x s
lane_right s thread = omega (arith, count_by-le-length (λ t. nat_lt t thread) s.threads)

row_above : (from step : ℕ) → 120 ≤ row_y from step
row_above from step = omega arith

row_below : (s : Scene) (step : ℕ) → s.span.from ≤ step → step < s.span.to
    → row_y s.span.from step + 22 ≤ rows_end s
row_below s step low high = omega (arith, low, high)

-- a step of the part stands in a lane and a row
abbrev IsAt : Scene → Point → Type 0
IsAt s at = IsPlace (width s) (height s) (text_x s) (rows_end s) (wide_enough s) (high_enough s) at

at_place : (s : Scene) (thread step : ℕ) → s.span.from ≤ step → step < s.span.to → IsAt s (place_of s thread step)
at_place s thread step low high = record {
  left = lane_left s.threads thread;
  right = lane_right s thread;
  above = row_above s.span.from step;
  below = row_below s step low high;
}

-- ---- rows and lanes

row_in : (s : Scene) (step : ℕ) → s.span.from ≤ step → step < s.span.to → IsIn s (row_mark s step)
row_in s step low high =
    let above = row_above s.span.from step in
    let below = row_below s step low high in
    let deep = high_enough s in
    (omega arith, omega (arith, above, below, deep))

rows_in : (s : Scene) (step : ℕ) → s.span.from ≤ step → step < s.span.to → All (IsIn s) (row_marks s step)
rows_in s step low high = by ((step - s.span.from) % 2 == 0)
  where
    by : (b : Bool) → All (IsIn s) (if b then row_mark s step ∷ [] else [])
    by true = All-cons (IsIn s) (row_mark s step) [] (row_in s step low high) (All-nil (IsIn s))
    by false = All-nil (IsIn s)

-- a row at which a lane ends
row_or_below : (s : Scene) (y : ℕ) (o : Option ℕ) → y ≤ rows_end s
    → IfSome o (λ n. (s.span.from ≤ n) × (n < s.span.to)) → row_or s.span.from y o ≤ rows_end s
row_or_below s y None le h = le
row_or_below s y (Some n) le h = let below = row_below s n h.0 h.1 in omega (arith, below)

found_in : (P : ℕ → Type 0) (test : Drawn → Bool) (steps : List Drawn) → All (λ d. P d.number) steps
    → IfSome (first_that test steps) P
found_in P test [] h = tt
found_in P test (d ∷ ds) h = by (test d) (found_in P test ds (All-tail (λ d. P d.number) d ds h))
  where
    by : (b : Bool) → IfSome (first_that test ds) P → IfSome (if b then Some d.number else first_that test ds) P
    by true later = All-head (λ d. P d.number) d ds h
    by false later = later

lane_in : (s : Scene) (thread : ℕ) → IsLaid s → IsIn s (lane_mark s thread)
lane_in s thread h =
    let right = lane_right s thread in
    let fits = wide_enough s in
    let deep = high_enough s in
    let start = row_or_below s 98 (first_that (starts thread) s.steps) (omega arith)
    (found_in (λ n. (s.span.from ≤ n) × (n < s.span.to)) (starts thread) s.steps h.steps) in
    let end = row_or_below s (rows_end s) (first_that (ends s.sketch.feet thread) s.steps) (omega arith)
    (found_in (λ n. (s.span.from ≤ n) × (n < s.span.to)) (ends s.sketch.feet thread) s.steps h.steps) in (
      record { across = omega (arith, right, fits); down = omega (arith, start, deep) },
      record { across = omega (arith, right, fits); down = omega (arith, end, deep) },
    )

-- a name has at most five bytes
short : (thread : ℕ) → thread < 1024 → length (short_name thread) ≤ 5
short thread lt =
    let digits = length-decimal-le 4 thread (omega arith) (omega (arith, lt)) (omega (arith, lt)) in
    omega (arith, length-append (codes "T") (decimal thread), digits)

name_in : (s : Scene) (y thread : ℕ) → thread < 1024 → 16 ≤ y → y + 8 ≤ height s → IsIn s (name_mark s y thread)
name_in s y thread lt above below =
    let right = lane_right s thread in
    let fits = wide_enough s in
    let few = short thread lt in
    (omega (arith, right, fits, few), record { above = above; below = below })

lanes_in : (s : Scene) (thread : ℕ) → IsLaid s → thread < 1024 → All (IsIn s) (lane_marks s thread)
lanes_in s thread h lt =
    let deep = high_enough s in
    all_three (IsIn s) (lane_mark s thread) (name_mark s 86 thread) (name_mark s (rows_end s + 18) thread)
    (lane_in s thread h) (name_in s 86 thread lt (omega arith) (omega (arith, deep)))
    (name_in s (rows_end s + 18) thread lt (omega arith) (omega (arith, deep)))

-- ---- arrows and races

arrow_in : (s : Scene) (arrow : Pair) → IsLaid s → Contains (arrows s.sketch.feet s.done) arrow → IsIn s (arrow_mark s arrow)
arrow_in s arrow h there =
    let is = arrow_is s.sketch.feet s.done arrow there in
    let first = at_place s (thread_at s.sketch.feet arrow.first) arrow.first
    (omega (arith, h.front, is.low)) (omega (arith, h.back, is.rising, is.high)) in
    let second = at_place s (thread_at s.sketch.feet arrow.second) arrow.second
    (omega (arith, h.front, is.low, is.rising)) (omega (arith, h.back, is.high)) in
    arrow_inside (width s) (height s) (text_x s) (rows_end s) (wide_enough s) (high_enough s)
    (is_wake s.sketch.feet arrow) (foot_place s arrow.first) (foot_place s arrow.second) first second

-- a race of the part has both steps there
both_in : (s : Scene) (race : Pair) → IsLaid s → holds_race s.done race ≡ true
    → ((s.span.from ≤ race.first) × (race.first < s.span.to)) × ((s.span.from ≤ race.second) × (race.second < s.span.to))
both_in s race h e =
    let both = and_parts (is_in s.done race.first) (is_in s.done race.second) e in
    let first = in_part s.done race.first both.0 in
    let second = in_part s.done race.second both.1 in (
      (omega (arith, h.front, first.0), omega (arith, h.back, first.1)),
      (omega (arith, h.front, second.0), omega (arith, h.back, second.1)),
    )

race_in_picture : (s : Scene) (race : Pair) → IsLaid s → holds_race s.done race ≡ true → IsIn s (race_mark s race)
race_in_picture s race h e =
    let both = both_in s race h e in
    race_inside (width s) (height s) (text_x s) (rows_end s) (wide_enough s) (high_enough s)
    (foot_place s race.first) (foot_place s race.second)
    (at_place s (thread_at s.sketch.feet race.first) race.first both.0.0 both.0.1)
    (at_place s (thread_at s.sketch.feet race.second) race.second both.1.0 both.1.1)

-- ---- steps

part_in : (s : Scene) (p : Part) (at : Point) → IsAt s at → IsShapeInside (width s) (height s) [] (part_shape p at)
part_in s part.Stopped at h = round_inside (width s) (height s) (text_x s) (rows_end s) (wide_enough s) (high_enough s) at h
part_in s part.Racing at h = round_inside (width s) (height s) (text_x s) (rows_end s) (wide_enough s) (high_enough s) at h
part_in s part.Plain at h = round_inside (width s) (height s) (text_x s) (rows_end s) (wide_enough s) (high_enough s) at h

-- the number of a step has at most seven bytes
few_digits : (step : ℕ) → step < 2 ^ 22 → length (decimal (step + 1)) ≤ 7
few_digits step lt = length-decimal-le 7 (step + 1) (omega arith) (omega (arith, lt)) (omega (arith, lt))

-- a text beside a step
text_in : (s : Scene) (y : ℕ) (text : List ℕ) → 16 ≤ y → y + 8 ≤ height s
    → IsShapeInside (width s) (height s) (cut text) (Words (record { x = text_x s; y = y }))
text_in s y text above below =
    let fits = wide_enough s in
    let few = cut_short 60 text in
    (omega (arith, fits, few), record { above = above; below = below })

step_in : (s : Scene) (d : Drawn) → IsLaid s → (s.span.from ≤ d.number) × (d.number < s.span.to)
    → All (IsIn s) (step_marks s d)
step_in s d h is =
    let at = at_place s d.thread d.number is.0 is.1 in
    let above = row_above s.span.from d.number in
    let below = row_below s d.number is.0 is.1 in
    let fits = wide_enough s in
    let deep = high_enough s in
    let digits = few_digits d.number (omega (arith, is.1, h.few)) in
    all_four (IsIn s) (step_mark s d) (number_mark s d) (stand_mark s d) (did_mark s d)
    (part_in s (part_of s d.number) (place_of s d.thread d.number) at) (
      omega (arith, digits),
      omega (arith, fits),
      record { above = omega (arith, above); below = omega (arith, below, deep) },
    )
    (text_in s (row_y s.span.from d.number - 4) d.stand (omega (arith, above))
    (omega (arith, below, deep)))
    (text_in s (row_y s.span.from d.number + 13) (did_line s d) (omega (arith, above)) (omega (arith, below, deep)))

-- ---- the column

column_across : (s : Scene) (race : Pair) → s.first ≡ Some race → column_x s + 96 + 20 * length s.threads ≤ width s
column_across s race e =
    let same = ap (λ (o : Option Pair). column_width (length s.threads) o) e in
    omega (arith, same)

-- a row of the column: two more than the part has
column_down : (s : Scene) (row : ℕ) → row < (s.span.to - s.span.from) + 2 → row_y 0 row + 14 ≤ height s
column_down s row lt = omega (arith, lt)

column_round : (s : Scene) (race : Pair) (thread row : ℕ) → s.first ≡ Some race → row < (s.span.to - s.span.from) + 2
    → IsRoundInside (width s) (height s) (column_place s thread row)
column_round s race thread row e lt =
    let fits = column_across s race e in
    let few = count_by-le-length (λ t. nat_lt t thread) s.threads in
    let above = row_above 0 row in
    let below = column_down s row lt in
    record {
      left = omega arith;
      right = omega (arith, fits, few);
      above = omega (arith, above);
      below = omega (arith, below);
    }

number_in : (s : Scene) (race : Pair) (row step : ℕ) → s.first ≡ Some race → row < (s.span.to - s.span.from) + 2
    → step < 2 ^ 22
    → (8 * length (decimal (step + 1)) ≤ (number_place s row).x) × ((number_place s row).x ≤ width s)
    × IsLineInside (height s) (number_place s row).y
number_in s race row step e lt few =
    let digits = few_digits step few in
    let fits = column_across s race e in
    let above = row_above 0 row in
    let below = column_down s row lt in (
      omega (arith, digits),
      omega (arith, fits),
      record { above = omega (arith, above); below = omega (arith, below) },
    )

kept_in : (s : Scene) (race : Pair) → s.first ≡ Some race → (row step : ℕ) → row < (s.span.to - s.span.from) + 2
    → step < 2 ^ 22 → All (IsIn s) (kept_marks s race row step)
kept_in s race e row step lt few =
    all_two (IsIn s) (kept_mark s race row step) (kept_number s row step) (own (is_of_race race step))
    (number_in s race row step e lt few)
  where
    own : (b : Bool)
        → IsShapeInside (width s) (height s) [] (kept_shape b (column_place s (thread_at s.sketch.feet step) row))
    own true = column_round s race (thread_at s.sketch.feet step) row e lt
    own false = column_round s race (thread_at s.sketch.feet step) row e lt

left_in : (s : Scene) (race : Pair) → s.first ≡ Some race → (row step : ℕ) → row < (s.span.to - s.span.from) + 2
    → step < 2 ^ 22 → All (IsIn s) (left_marks s row step)
left_in s race e row step lt few =
    all_two (IsIn s) (left_mark s row step) (left_number s row step)
    (column_round s race (thread_at s.sketch.feet step) row e lt) (number_in s race row step e lt few)

column_of_in : (s : Scene) (race : Pair) (kept left : List ℕ) → s.first ≡ Some race
    → length kept + length left ≤ (s.span.to - s.span.from) + 2 → All (λ k. k < 2 ^ 22) kept
    → All (λ k. k < 2 ^ 22) left → All (IsIn s) (column_of s race kept left)
column_of_in s race kept left e few hk hl =
    let fits = column_across s race e in
    let deep = high_enough s in
    let rows = (s.span.to - s.span.from) + 2 in
    let own = rows_marks (kept_marks s race) 0 kept in
    let others = rows_marks (left_marks s) (length kept) left in
    All-append (IsIn s) (column_name s ∷ column_race s race (length kept) ∷ own) others
    (All-cons (IsIn s) (column_name s) (column_race s race (length kept) ∷ own)
    (omega (arith, fits), record { above = omega arith; below = omega (arith, deep) })
    (All-cons (IsIn s) (column_race s race (length kept)) own (
      ends_in (thread_at s.sketch.feet race.first) (length kept - 2) (omega (arith, few)),
      ends_in (thread_at s.sketch.feet race.second) (length kept - 1) (omega (arith, few)),
    )
    (rows_inside (IsIn s) (λ k. k < 2 ^ 22) (kept_marks s race) rows (kept_in s race e) 0 kept (omega (arith, few)) hk)))
    (rows_inside (IsIn s) (λ k. k < 2 ^ 22) (left_marks s) rows (left_in s race e) (length kept) left few hl)
  where
    ends_in : (thread row : ℕ) → row < (s.span.to - s.span.from) + 2
        → IsPointInside (width s) (height s) (column_place s thread row)
    ends_in thread row lt =
        let round = column_round s race thread row e lt in
        record { across = omega (arith, round.right); down = omega (arith, round.below) }

column_in : (s : Scene) (o : Option Pair) → IsLaid s → s.first ≡ o → IfSome o (λ r. holds_race s.done r ≡ true)
    → All (IsIn s) (column_marks s o)
column_in s None h e held = All-nil (IsIn s)
column_in s (Some race) h e held =
    let both = both_in s race h held in
    let few = h.few in
    let back = h.back in
    column_of_in s race (witness_steps s.sketch.feet race s.span.from) (left_out s.sketch.feet race s.done) e
    (rows_fit both.1.0 (second_done race held))
    (witness_below s.sketch.feet race s.span.from (2 ^ 22) (omega (arith, both.0.1, few)) (omega (arith, both.1.1, few)))
    (left_below s.sketch.feet race s.done (2 ^ 22) (omega (arith, back, few)))
  where
    second_done : (race : Pair) → holds_race s.done race ≡ true → (s.done.from ≤ race.second) × (race.second < s.done.to)
    second_done race held =
        in_part s.done race.second (and_parts (is_in s.done race.first) (is_in s.done race.second) held).1

    rows_fit : s.span.from ≤ race.second → (s.done.from ≤ race.second) × (race.second < s.done.to)
        → length (witness_steps s.sketch.feet race s.span.from) + length (left_out s.sketch.feet race s.done)
        ≤ (s.span.to - s.span.from) + 2
    rows_fit low within =
        let all = rows_few s.sketch.feet race s.done within.0 within.1 in
        let front = h.front in
        let back = h.back in
        let same = ap (λ (from : ℕ). length (witness_steps s.sketch.feet race from)) front in
        omega (arith, all, front, back, same)

-- ---- what is written above and below

-- a line of text at the left
line_in : (s : Scene) (y : ℕ) (text : List ℕ) → 16 ≤ y → y + 8 ≤ height s
    → IsShapeInside (width s) (height s) (cut_at 70 text) (Words (record { x = 16; y = y }))
line_in s y text above below =
    let fits = wide_enough s in
    let behind = text_behind s in
    let few = cut_short 70 text in
    (omega (arith, fits, behind, few), record { above = above; below = below })

-- and one that is cut where it has no more room
room_in : (s : Scene) (y : ℕ) (text : List ℕ) → 16 ≤ y → y + 8 ≤ height s
    → IsShapeInside (width s) (height s) (cut_at (line_room s) text) (Words (record { x = 16; y = y }))
room_in s y text above below =
    let fits = wide_enough s in
    let few = cut_short (line_room s) text in
    (omega (arith, fits, few), record { above = above; below = below })

names_in : (s : Scene) → All (IsIn s) (names_marks s)
names_in s = by (length s.sketch.names == 0)
  where
    inside : IsIn s (names_mark s)
    inside = room_in s 70 s.sketch.names (omega arith) (omega (arith, high_enough s))

    by : (b : Bool) → All (IsIn s) (if b then [] else names_mark s ∷ [])
    by true = All-nil (IsIn s)
    by false = All-cons (IsIn s) (names_mark s) [] inside (All-nil (IsIn s))

heads_in : (s : Scene) → All (IsIn s) (head_marks s)
heads_in s =
    let deep = high_enough s in
    All-append (IsIn s) (title_mark s ∷ part_mark s ∷ []) (names_marks s)
    (all_two (IsIn s) (title_mark s) (part_mark s) (line_in s 30 (title_text s) (omega arith) (omega (arith, deep)))
    (room_in s 54 (part_text s) (omega arith) (omega (arith, deep))))
    (names_in s)

tail_below : (s : Scene) (n : ℕ) → n < tail_count s → tail_y s n + 8 ≤ height s
tail_below s n lt = omega (arith, lt)

tail_in : (s : Scene) (n count : ℕ) (text : List ℕ) → n + count ≤ tail_count s → All (IsIn s) (line_marks s n count text)
tail_in s n zero text le = All-nil (IsIn s)
tail_in s n (suc count) text le =
    All-cons (IsIn s) (tail_mark s n (first_line text)) (line_marks s (n + 1) count (behind_line text))
    (line_in s (tail_y s n) (first_line text) (omega arith) (tail_below s n (omega (arith, le))))
    (tail_in s (n + 1) count (behind_line text) (omega (arith, le)))

-- ---- the legend

abbrev IsRow : Scene → ℕ → Type 0
IsRow s n = n < length (legend_signs s)

legend_below : (s : Scene) (n : ℕ) → IsRow s n → legend_y s n + 22 ≤ height s
legend_below s n lt = omega (arith, lt)

legend_above : (s : Scene) (n : ℕ) → 100 ≤ legend_y s n
legend_above s n = omega arith

words_in : (s : Scene) (n : ℕ) (words : List ℕ) → IsRow s n → length words ≤ 65 → IsIn s (words_mark s n words)
words_in s n words lt few =
    let fits = wide_enough s in
    let behind = text_behind s in
    let below = legend_below s n lt in
    let above = legend_above s n in
    (omega (arith, fits, behind, few), record { above = omega (arith, above); below = omega (arith, below) })

sample_in : (s : Scene) (x n : ℕ) → 8 ≤ x → x ≤ 80 → IsRow s n
    → IsRoundInside (width s) (height s) (record { x = x; y = legend_y s n })
sample_in s x n low high lt =
    let fits = wide_enough s in
    let below = legend_below s n lt in
    let above = legend_above s n in
    record {
      left = low;
      right = omega (arith, fits, high);
      above = omega (arith, above);
      below = omega (arith, below);
    }

linked_in : (s : Scene) (n : ℕ) (of end : Sign) (one other : Shape) (words : List ℕ) → IsRow s n → length words ≤ 65
    → IsShapeInside (width s) (height s) [] one → IsShapeInside (width s) (height s) [] other
    → All (IsIn s) (linked s n of end one other words)
linked_in s n of end one other words lt few ha hb =
    let left = sample_in s 18 n (omega arith) (omega arith) lt in
    let right = sample_in s 62 n (omega arith) (omega arith) lt in
    all_four (IsIn s) (mark_of of (sample s n) [] words) (mark_of end one [] words) (mark_of end other [] words)
    (words_mark s n words) (
      record { across = omega (arith, left.right); down = omega (arith, left.below) },
      record { across = omega (arith, right.right); down = omega (arith, right.below) },
    )
    ha hb (words_in s n words lt few)

-- a row is an arrow, a race, or a step
row_told : (s : Scene) (n : ℕ) (of : Sign) → IsRow s n → length (sign_text of) ≤ 65 → All (IsIn s) (legend_row s n of)
row_told s n of lt few = by (is_arrow of) (is_race of)
  where
    left : IsRoundInside (width s) (height s) (left_end s n)
    left = sample_in s 18 n (omega arith) (omega arith) lt

    right : IsRoundInside (width s) (height s) (right_end s n)
    right = sample_in s 62 n (omega arith) (omega arith) lt

    step : (p : Part) → IsShapeInside (width s) (height s) [] (part_shape p (middle s n))
    step part.Stopped = sample_in s 40 n (omega arith) (omega arith) lt
    step part.Racing = sample_in s 40 n (omega arith) (omega arith) lt
    step part.Plain = sample_in s 40 n (omega arith) (omega arith) lt

    by : (arrow race : Bool) → All (IsIn s) (if arrow then arrow_entry s n of (sign_text of)
        else (if race then race_entry s n of (sign_text of) else step_entry s n of (sign_text of)))
    by true race = linked_in s n of sign.Step (Dot (left_end s n)) (Dot (right_end s n)) (sign_text of) lt few left right
    by false true =
        linked_in s n of sign.Racing (Diamond (left_end s n)) (Diamond (right_end s n)) (sign_text of) lt few left right
    by false false =
        all_two (IsIn s) (mark_of of (part_shape (part_with of) (middle s n)) [] (sign_text of)) (words_mark s n (sign_text of))
        (step (part_with of)) (words_in s n (sign_text of) lt few)

-- what it says is short
told_few : (s : Scene) → All (λ (of : Sign). length (sign_text of) ≤ 65) (legend_signs s)
unfolding legend_signs
told_few s =
    let few = λ (of : Sign). length (sign_text of) ≤ 65 in
    All-filter (has_sign (flat_map as_written (drawn_marks s))) few legend_order
    (All-from_recursion few legend_order
    (lit≤ tt, (lit≤ tt, (lit≤ tt, (lit≤ tt, (lit≤ tt, (lit≤ tt, (lit≤ tt, (lit≤ tt, (lit≤ tt, tt))))))))))

legend_in : (s : Scene) → All (IsIn s) (legend_marks s)
legend_in s =
    let signs = legend_signs s in
    rows_inside (IsIn s) (λ (of : Sign). length (sign_text of) ≤ 65) (legend_row s) (length signs)
    (λ n of lt few. row_told s n of lt few) 0 signs (omega arith) (told_few s)

-- ---- all of them

round_in : (s : Scene) → IsLaid s → All (IsIn s) (round_marks s)
round_in s h =
    let column = column_marks s s.first in
    let tail = line_marks s 0 (tail_count s) s.sketch.tail in
    All-append (IsIn s) (column ++ head_marks s) tail
    (All-append (IsIn s) column (head_marks s) (column_in s s.first h refl h.first) (heads_in s))
    (tail_in s 0 (tail_count s) s.sketch.tail (omega arith))

rows_all : (s : Scene) → All (IsIn s) (flat_map (row_marks s) (steps_in s.span))
rows_all s =
    all_flat (IsIn s) (row_marks s) (steps_in s.span) (λ k there.
    let is = from_range s.span.from (s.span.to - s.span.from) k there in
    rows_in s k is.0 (omega (arith, is)))

lanes_all : (s : Scene) → IsLaid s → All (IsIn s) (flat_map (lane_marks s) s.threads)
lanes_all s h =
    all_flat (IsIn s) (lane_marks s) s.threads (λ t there.
    lanes_in s t h (All-contains (λ n. n < 1024) s.threads t h.threads there))

arrows_all : (s : Scene) → IsLaid s → All (IsIn s) (map (arrow_mark s) (arrows s.sketch.feet s.done))
arrows_all s h = all_mapped (IsIn s) (arrow_mark s) (arrows s.sketch.feet s.done) (λ a there. arrow_in s a h there)

races_all : (s : Scene) → IsLaid s → All (IsIn s) (map (race_mark s) (drawn_races s))
races_all s h =
    all_mapped (IsIn s) (race_mark s) (drawn_races s) (λ r there.
    race_in_picture s r h
    (from_filter (holds_race s.done) s.near r (from_take 6 (races_in s.done s.near) r there)).1)

steps_all : (s : Scene) → IsLaid s → All (IsIn s) (flat_map (step_marks s) s.steps)
steps_all s h =
    all_flat (IsIn s) (step_marks s) s.steps (λ d there.
    step_in s d h
    (All-contains (λ d. (s.span.from ≤ d.number) × (d.number < s.span.to)) s.steps d h.steps there))

drawn_in : (s : Scene) → IsLaid s → All (IsIn s) (drawn_marks s)
drawn_in s h =
    let rows = flat_map (row_marks s) (steps_in s.span) in
    let lanes = flat_map (lane_marks s) s.threads in
    let links = map (arrow_mark s) (arrows s.sketch.feet s.done) in
    let races = map (race_mark s) (drawn_races s) in
    let steps = flat_map (step_marks s) s.steps in
    All-append (IsIn s) (rows ++ lanes ++ races ++ links ++ steps) (round_marks s)
    (All-append (IsIn s) (rows ++ lanes ++ races ++ links) steps
    (All-append (IsIn s) (rows ++ lanes ++ races) links
    (All-append (IsIn s) (rows ++ lanes) races
    (All-append (IsIn s) rows lanes (rows_all s) (lanes_all s h))
    (races_all s h))
    (arrows_all s h))
    (steps_all s h))
    (round_in s h)

all_in : (s : Scene) → IsLaid s → All (IsIn s) (marks s)
all_in s h = All-append (IsIn s) (drawn_marks s) (legend_marks s) (drawn_in s h) (legend_in s)

-- THE LAW, of any run of which these steps are drawn
pub marks_inside : (s : Sketch) (span : Span) (steps : List Drawn) → span.to ≤ 2 ^ 22
    → All (λ d. (span.from ≤ d.number) × (d.number < span.to)) steps
    → All (IsIn (scene_of s span steps)) (marks (scene_of s span steps))
marks_inside s span steps few within = all_in (scene_of s span steps) (laid_of s span steps few within)

-- and of the run of a program
pub asked_inside : (s : Seen) (values : List StepValues) (asked : Option Span) → s.count ≤ 2 ^ 22
    → All (IsIn (asked_scene s values asked)) (marks (asked_scene s values asked))
asked_inside s values asked few =
    let span = chosen s.count s.races asked in
    let to = chosen_to s.count s.races asked in
    marks_inside (sketch_of s) span (drawn_steps s values span s.steps) (omega (arith, to, few))
    (steps_are s values span s.steps)
