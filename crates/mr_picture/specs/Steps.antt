-- The rows of steps.
use Rattle.std.specs.Prelude.{ℕ, ◌+◌, ◌-◌, ◌==◌, ◌%◌, ◌&&◌, ◌||◌, Bool, not, nat_lt, if◌then◌else◌, List, [], ◌∷◌, ◌++◌, codes}
use Rattle.std.specs.Prelude.{decimal, drop, flat_map, length}
use Rattle.std.specs.List.{list_any}
use Rattle.mr_event.specs.declared.footprint.Pair.{Pair}
use Rattle.mr_picture.specs.Span.{holds_race}
use Rattle.mr_svg.specs.declared.shape.Point.{Point}
use Rattle.mr_svg.specs.declared.shape.Shape.{Shape}
use Rattle.mr_svg.specs.declared.shape.Shape.TheVariants.{Band, Diamond, Dot, Square, Words, WordsTo}
use Rattle.mr_svg.specs.declared.shape.Sign.{Sign}
use Rattle.mr_svg.specs.declared.shape.Sign.TheVariants as sign
use Rattle.mr_svg.specs.Svg.{Mark}
use Rattle.mr_picture.specs.declared.scene.Drawn.{Drawn}
use Rattle.mr_picture.specs.declared.steps.Part.{Part}
use Rattle.mr_picture.specs.declared.steps.Part.TheVariants as part
use Rattle.mr_picture.specs.Grid.{place_of, row_y, text_x, width}
use Rattle.mr_picture.specs.Lanes.{thread_word}
use Rattle.mr_picture.specs.Partners.{partners}
use Rattle.mr_picture.specs.Scene.{Scene}
use Rattle.mr_picture.specs.Texts.{cut, step_word}

-- ---- what is told of a step

-- with which steps it races, and what it did: each part behind a line feed
abbrev pub did_text : Scene → Drawn → List ℕ
did_text s step = partners s.near step.number ++ step.did

-- `step N, thread T  WHERE`, where a statement is told as `LINE:COLUMN  FUNCTION BLOCK  STATEMENT`; and below it all
-- that it did: what is shown with each mark of the step
abbrev pub whole_text : Scene → Drawn → List ℕ
whole_text s step =
    step_word step.number ++ codes ", " ++ thread_word step.thread ++ codes "  " ++ step.stand ++ did_text s step

-- on one line `; ` stands for a line feed
abbrev pub joined : ℕ → List ℕ
joined b = if b == 10 then codes "; " else b ∷ []

-- what it did, on one line
abbrev pub did_line : Scene → Drawn → List ℕ
did_line s step = drop 2 (flat_map joined (did_text s step))

-- ---- its sign

-- whether it is one of the two steps of a drawn race
abbrev pub is_step_of : Scene → ℕ → Pair → Bool
is_step_of s step race = holds_race s.done race && (race.first == step || race.second == step)

-- a step that ended the run without completing, one that races, or another one
abbrev pub part_of : Scene → ℕ → Part
part_of s step =
    if not (nat_lt step (length s.sketch.feet)) then part.Stopped
    else (if list_any (is_step_of s step) s.near then part.Racing else part.Plain)

abbrev pub part_sign : Part → Sign
part_sign part.Stopped = sign.Stop
part_sign part.Racing = sign.Racing
part_sign part.Plain = sign.Step

abbrev pub part_shape : Part → Point → Shape
part_shape part.Stopped at = Square at
part_shape part.Racing at = Diamond at
part_shape part.Plain at = Dot at

-- ---- its marks

-- the background of each other row
abbrev pub row_mark : Scene → ℕ → Mark
row_mark s step = record {
  sign = sign.Row;
  shape = Band (record { x = 0; y = row_y s.span.from step - 22 }) (width s) 44;
  words = [];
  title = step_word step;
}

abbrev pub row_marks : Scene → ℕ → List Mark
row_marks s step = if (step - s.span.from) % 2 == 0 then row_mark s step ∷ [] else []

-- a mark of a step
abbrev pub mark_of : Sign → Shape → List ℕ → List ℕ → Mark
mark_of sign shape words title = record { sign = sign; shape = shape; words = words; title = title }

-- where it stands in its lane
abbrev pub at_step : Scene → Drawn → Point
at_step s step = place_of s step.thread step.number

-- its own mark, in its lane
abbrev pub step_mark : Scene → Drawn → Mark
step_mark s step =
    mark_of (part_sign (part_of s step.number)) (part_shape (part_of s step.number) (at_step s step)) []
    (whole_text s step)

-- its number
abbrev pub number_mark : Scene → Drawn → Mark
number_mark s step =
    mark_of sign.Name (WordsTo (record { x = 62; y = (at_step s step).y + 5 })) (decimal (step.number + 1))
    (whole_text s step)

-- where its thread stood, and the statement
abbrev pub stand_mark : Scene → Drawn → Mark
stand_mark s step =
    mark_of sign.Text (Words (record { x = text_x s; y = (at_step s step).y - 4 })) (cut step.stand)
    (whole_text s step)

-- with which steps it races, and what it did
abbrev pub did_mark : Scene → Drawn → Mark
did_mark s step =
    mark_of sign.Note (Words (record { x = text_x s; y = (at_step s step).y + 13 })) (cut (did_line s step))
    (whole_text s step)

-- THE MARKS OF A STEP
abbrev pub step_marks : Scene → Drawn → List Mark
step_marks s step = step_mark s step ∷ number_mark s step ∷ stand_mark s step ∷ did_mark s step ∷ []
