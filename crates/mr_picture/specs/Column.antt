-- The column of the witness for the first race: its steps in its order, and below them those that it leaves out.
use Rattle.std.specs.Prelude.{ℕ, ◌+◌, ◌-◌, ◌*◌, ◌==◌, ◌||◌, Bool, true, false, nat_lt, count_by, List, [], ◌∷◌, ◌++◌}
use Rattle.std.specs.Prelude.{codes, decimal, length, Option, None, Some}
use Rattle.mr_event.specs.declared.footprint.Pair.{Pair}
use Rattle.mr_event.specs.Order.{thread_at}
use Rattle.mr_picture.specs.Witness.{left_out, witness_steps}
use Rattle.mr_svg.specs.declared.shape.Point.{Point}
use Rattle.mr_svg.specs.declared.shape.Shape.{Shape}
use Rattle.mr_svg.specs.declared.shape.Shape.TheVariants.{Diamond, Dot, Line, Words, WordsTo}
use Rattle.mr_svg.specs.declared.shape.Sign.{Sign}
use Rattle.mr_svg.specs.declared.shape.Sign.TheVariants as sign
use Rattle.mr_svg.specs.Svg.{Mark}
use Rattle.mr_picture.specs.Grid.{column_x, row_y}
use Rattle.mr_picture.specs.Scene.{Scene}
use Rattle.mr_picture.specs.Steps.{mark_of}
use Rattle.mr_picture.specs.Texts.{step_word}

-- a row of the column
abbrev pub column_y : ℕ → ℕ
column_y row = row_y 0 row

-- where a step of a thread stands in a row of the column
abbrev pub column_place : Scene → ℕ → ℕ → Point
column_place s thread row = record {
  x = column_x s + 80 + 20 * count_by (λ t. nat_lt t thread) s.threads;
  y = column_y row;
}

-- where the number of a step ends there
abbrev pub number_place : Scene → ℕ → Point
number_place s row = record { x = column_x s + 62; y = column_y row + 5 }

-- ---- steps of the witness

abbrev pub is_of_race : Pair → ℕ → Bool
is_of_race race step = race.first == step || race.second == step

abbrev pub kept_title : ℕ → ℕ → List ℕ
kept_title step row =
    step_word step ++ codes " is " ++ step_word row ++ codes " of the witness, of those that are drawn"

abbrev pub kept_sign : Bool → Sign
kept_sign true = sign.Racing
kept_sign false = sign.Step

abbrev pub kept_shape : Bool → Point → Shape
kept_shape true at = Diamond at
kept_shape false at = Dot at

-- its mark, and its number
abbrev pub kept_mark : Scene → Pair → ℕ → ℕ → Mark
kept_mark s race row step =
    let races = is_of_race race step in
    mark_of (kept_sign races) (kept_shape races (column_place s (thread_at s.sketch.feet step) row)) []
    (kept_title step row)

abbrev pub kept_number : Scene → ℕ → ℕ → Mark
kept_number s row step =
    mark_of sign.Name (WordsTo (number_place s row)) (decimal (step + 1)) (kept_title step row)

abbrev pub kept_marks : Scene → Pair → ℕ → ℕ → List Mark
kept_marks s race row step = kept_mark s race row step ∷ kept_number s row step ∷ []

-- ---- steps that it leaves out

abbrev pub left_title : ℕ → List ℕ
left_title step = codes "the witness leaves out " ++ step_word step

abbrev pub left_mark : Scene → ℕ → ℕ → Mark
left_mark s row step =
    mark_of sign.LeftOut (Dot (column_place s (thread_at s.sketch.feet step) row)) [] (left_title step)

abbrev pub left_number : Scene → ℕ → ℕ → Mark
left_number s row step =
    mark_of sign.LeftOut (WordsTo (number_place s row)) (decimal (step + 1)) (left_title step)

abbrev pub left_marks : Scene → ℕ → ℕ → List Mark
left_marks s row step = left_mark s row step ∷ left_number s row step ∷ []

-- ---- rows

-- the marks of the step in a row, where there is one
abbrev pub marks_in : (ℕ → ℕ → List Mark) → ℕ → Option ℕ → List Mark
marks_in marks row None = []
marks_in marks row (Some step) = marks row step

-- the marks of these, one a row, from a row on
abbrev pub rows_marks : {X : Type 0} → (ℕ → X → List Mark) → ℕ → List X → List Mark
rows_marks marks row [] = []
rows_marks marks row (x ∷ xs) = marks row x ++ rows_marks marks (row + 1) xs

-- ---- the column

abbrev pub column_name : Scene → Mark
column_name s =
    mark_of sign.Name (Words (record { x = column_x s + 12; y = 86 })) (codes "witness")
    (codes "the witness for the first race: an order of some of these steps that ends with the two steps of the race")

-- the line between its last two steps
abbrev pub column_line : Scene → Pair → ℕ → Shape
column_line s race count =
    Line (column_place s (thread_at s.sketch.feet race.first) (count - 2))
    (column_place s (thread_at s.sketch.feet race.second) (count - 1))

-- that they race
abbrev pub column_race : Scene → Pair → ℕ → Mark
column_race s race count =
    mark_of sign.FirstRace (column_line s race count) []
    (codes "the two steps of the first race, one right after the other")

abbrev pub column_of : Scene → Pair → List ℕ → List ℕ → List Mark
column_of s race kept left =
    column_name s ∷ column_race s race (length kept) ∷ rows_marks (kept_marks s race) 0 kept
    ++ rows_marks (left_marks s) (length kept) left

-- THE COLUMN, where the first listed race is drawn
abbrev pub column_marks : Scene → Option Pair → List Mark
column_marks s None = []
column_marks s (Some race) =
    column_of s race (witness_steps s.sketch.feet race s.span.from) (left_out s.sketch.feet race s.done)
