-- When a mark lies inside a picture.
use Rattle.std.specs.Prelude.{ℕ, ◌+◌, ◌*◌, ◌≤◌, List, length}
use Rattle.mr_svg.specs.declared.shape.Point.{Point}
use Rattle.mr_svg.specs.declared.shape.Shape.{Shape}
use Rattle.mr_svg.specs.declared.shape.Shape.TheVariants.{Band, Line, Bend, Dot, Diamond, Square, Words, WordsTo}
use Rattle.mr_svg.specs.Svg.{Mark}

-- a point lies inside a picture that is so wide and so high
pub record IsPointInside (wide high : ℕ) (at : Point) : Type 0 where
  pub across : at.x ≤ wide
  pub down : at.y ≤ high

-- the same of all that lies within 8 of a point
pub record IsRoundInside (wide high : ℕ) (at : Point) : Type 0 where
  pub left : 8 ≤ at.x
  pub right : at.x + 8 ≤ wide
  pub above : 8 ≤ at.y
  pub below : at.y + 8 ≤ high

-- the same of words that stand on a line of this height, above which they reach 16 and below which they reach 8
pub record IsLineInside (high y : ℕ) : Type 0 where
  pub above : 16 ≤ y
  pub below : y + 8 ≤ high

-- A SHAPE LIES INSIDE: each of its points does; of words, each byte of which is at most 8 wide, all of them. A way
-- with a corner lies within its six points
abbrev pub IsShapeInside : ℕ → ℕ → List ℕ → Shape → Type 0
IsShapeInside wide high words (Band at across down) = (at.x + across ≤ wide) × (at.y + down ≤ high)
IsShapeInside wide high words (Line from to) = IsPointInside wide high from × IsPointInside wide high to
IsShapeInside wide high words (Bend from corner come to) =
    IsPointInside wide high from × IsPointInside wide high corner.before × IsPointInside wide high corner.at
    × IsPointInside wide high corner.behind × IsPointInside wide high come × IsPointInside wide high to
IsShapeInside wide high words (Dot at) = IsRoundInside wide high at
IsShapeInside wide high words (Diamond at) = IsRoundInside wide high at
IsShapeInside wide high words (Square at) = IsRoundInside wide high at
IsShapeInside wide high words (Words at) = (at.x + 8 * length words ≤ wide) × IsLineInside high at.y
IsShapeInside wide high words (WordsTo at) = (8 * length words ≤ at.x) × (at.x ≤ wide) × IsLineInside high at.y

abbrev pub IsInside : ℕ → ℕ → Mark → Type 0
IsInside wide high m = IsShapeInside wide high m.words m.shape
