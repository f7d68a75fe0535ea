-- The legend: a row for each of its signs that is drawn.
use Rattle.std.specs.Prelude.{◌≡◌, ℕ, ◌+◌, ◌==◌, Bool, true, false, if◌then◌else◌, List, [], ◌∷◌, codes, flat_map, length}
use Rattle.std.specs.List.{Contains, filter, list_any}
use Rattle.mr_svg.specs.declared.shape.Point.{Point}
use Rattle.mr_svg.specs.declared.shape.Shape.{Shape}
use Rattle.mr_svg.specs.declared.shape.Shape.TheVariants.{Diamond, Dot, Line, Words}
use Rattle.mr_svg.specs.declared.shape.Sign.{Sign}
use Rattle.mr_svg.specs.declared.shape.Sign.TheVariants as sign
use Rattle.mr_svg.specs.Svg.{Mark}
use Rattle.mr_picture.specs.Column.{rows_marks}
use Rattle.mr_picture.specs.Grid.{legend_y}
use Rattle.mr_picture.specs.Marks.{drawn_marks}
use Rattle.mr_picture.specs.Scene.{Scene}
use Rattle.mr_picture.specs.Steps.{mark_of, part_shape}
use Rattle.mr_picture.specs.Written.{as_written}
use Rattle.mr_picture.specs.declared.steps.Part.{Part}
use Rattle.mr_picture.specs.declared.steps.Part.TheVariants as part
use Rattle.mr_picture.specs.declared.written.Written.{Written}

-- ---- its rows

-- the signs that it tells, in order
abbrev pub legend_order : List Sign
legend_order =
    sign.Step ∷ sign.Racing ∷ sign.Stop ∷ sign.LeftOut ∷ sign.Wake ∷ sign.Dependence ∷ sign.MachineOrder
    ∷ sign.FirstRace ∷ sign.Race ∷ []

-- each sign has a number of its own
abbrev pub number_of : Sign → ℕ
number_of sign.Row = 0
number_of sign.Lane = 1
number_of sign.Step = 2
number_of sign.Racing = 3
number_of sign.Stop = 4
number_of sign.Wake = 5
number_of sign.Dependence = 6
number_of sign.MachineOrder = 7
number_of sign.Race = 8
number_of sign.FirstRace = 9
number_of sign.LeftOut = 10
number_of sign.Title = 11
number_of sign.Name = 12
number_of sign.Text = 13
number_of sign.Note = 14

-- whether one of these marks has a sign
abbrev pub is_sign : Sign → Written → Bool
is_sign of mark = number_of mark.sign == number_of of

abbrev pub has_sign : List Written → Sign → Bool
has_sign marks of = list_any (is_sign of) marks

-- THE ROWS OF THE LEGEND: those of its signs that a mark of the run has
unfoldable pub legend_signs : Scene → List Sign
legend_signs s = filter (has_sign (flat_map as_written (drawn_marks s))) legend_order

-- a mark of the run has this sign
abbrev pub IsDrawn : Scene → Sign → Type 0
IsDrawn s of = (m : Mark) × Contains (drawn_marks s) m × (m.sign ≡ of)

-- how high the picture is: it ends behind these rows
abbrev pub height : Scene → ℕ
height s = legend_y s (length (legend_signs s)) + 16

-- ---- a row

-- what it says
abbrev pub sign_text : Sign → List ℕ
sign_text sign.Step = codes "a step, in the lane of its thread; later ones are below"
sign_text sign.Racing = codes "a step of a race"
sign_text sign.Stop = codes "the step that ended the run"
sign_text sign.LeftOut = codes "a step that the witness leaves out"
sign_text sign.Wake = codes "the first step woke or started that thread"
sign_text sign.Dependence = codes "the second step depends on the first one"
sign_text sign.MachineOrder = codes "it depends on the first one, but not in Rust's order"
sign_text sign.FirstRace = codes "the first race: neither step happens before the other"
sign_text sign.Race = codes "another race"
sign_text _ = []

-- the words of a row
abbrev pub words_mark : Scene → ℕ → List ℕ → Mark
words_mark s n words = mark_of sign.Note (Words (record { x = 76; y = legend_y s n + 5 })) words words

-- a row: a sign, and what it says
abbrev pub entry : Scene → ℕ → Sign → Shape → List ℕ → List Mark
entry s n of shape words = mark_of of shape [] words ∷ words_mark s n words ∷ []

-- the ends of a sample line
abbrev pub left_end : Scene → ℕ → Point
left_end s n = record { x = 18; y = legend_y s n }

abbrev pub right_end : Scene → ℕ → Point
right_end s n = record { x = 62; y = legend_y s n }

abbrev pub middle : Scene → ℕ → Point
middle s n = record { x = 40; y = legend_y s n }

abbrev pub sample : Scene → ℕ → Shape
sample s n = Line (left_end s n) (right_end s n)

-- a row with two steps that are linked
abbrev pub linked : Scene → ℕ → Sign → Sign → Shape → Shape → List ℕ → List Mark
linked s n of end one other words =
    mark_of of (sample s n) [] words ∷ mark_of end one [] words ∷ mark_of end other [] words
    ∷ words_mark s n words ∷ []

abbrev pub arrow_entry : Scene → ℕ → Sign → List ℕ → List Mark
arrow_entry s n of words = linked s n of sign.Step (Dot (left_end s n)) (Dot (right_end s n)) words

abbrev pub race_entry : Scene → ℕ → Sign → List ℕ → List Mark
race_entry s n of words = linked s n of sign.Racing (Diamond (left_end s n)) (Diamond (right_end s n)) words

-- what a step is that has this sign
abbrev pub part_with : Sign → Part
part_with sign.Racing = part.Racing
part_with sign.Stop = part.Stopped
part_with _ = part.Plain

abbrev pub step_entry : Scene → ℕ → Sign → List ℕ → List Mark
step_entry s n of words = entry s n of (part_shape (part_with of) (middle s n)) words

-- the kinds of links
abbrev pub is_arrow : Sign → Bool
is_arrow sign.Wake = true
is_arrow sign.Dependence = true
is_arrow sign.MachineOrder = true
is_arrow _ = false

abbrev pub is_race : Sign → Bool
is_race sign.FirstRace = true
is_race sign.Race = true
is_race _ = false

-- the row of a sign: an arrow, a race, or a step
abbrev pub row_of : Scene → ℕ → Sign → List ℕ → List Mark
row_of s n of words =
    if is_arrow of then arrow_entry s n of words
    else (if is_race of then race_entry s n of words else step_entry s n of words)

abbrev pub legend_row : Scene → ℕ → Sign → List Mark
legend_row s n of = row_of s n of (sign_text of)

-- THE LEGEND
abbrev pub legend_marks : Scene → List Mark
legend_marks s = rows_marks (legend_row s) 0 (legend_signs s)
