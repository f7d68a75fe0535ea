-- Arrows and races.
use Rattle.std.specs.Prelude.{ℕ, ◌+◌, ◌-◌, ◌==◌, ◌&&◌, Bool, true, false, nat_lt, if◌then◌else◌, List, [], ◌++◌}
use Rattle.std.specs.Prelude.{codes, take, Option, None, Some}
use Rattle.mr_event.specs.declared.footprint.Pair.{Pair}
use Rattle.mr_event.specs.Footprint.{Footprint}
use Rattle.mr_event.specs.Footprints.{wakes}
use Rattle.mr_event.specs.Order.{step_at, thread_at}
use Rattle.mr_rust_order.specs.Tests.{happens_before as rust_before}
use Rattle.mr_svg.specs.declared.shape.Corner.{Corner}
use Rattle.mr_svg.specs.declared.shape.Point.{Point}
use Rattle.mr_svg.specs.declared.shape.Shape.{Shape}
use Rattle.mr_svg.specs.declared.shape.Shape.TheVariants.{Bend}
use Rattle.mr_svg.specs.declared.shape.Sign.{Sign}
use Rattle.mr_svg.specs.declared.shape.Sign.TheVariants as sign
use Rattle.mr_svg.specs.Svg.{Mark}
use Rattle.mr_picture.specs.Grid.{place_of}
use Rattle.mr_picture.specs.Scene.{Scene}
use Rattle.mr_picture.specs.Span.{races_in}
use Rattle.mr_picture.specs.Texts.{step_word}

-- so far from one number, on the side of another one
abbrev pub beside : ℕ → ℕ → ℕ → ℕ
beside far x other = if nat_lt x other then x + far else x - far

-- a corner that is cut by 10, of a way that comes from one point and goes on to another one
abbrev pub corner_of : Point → Point → Point → Corner
corner_of from at to = record {
  before = record { x = beside 10 at.x from.x; y = at.y };
  at = at;
  behind = record { x = at.x; y = beside 10 at.y to.y };
}

-- where a completed step stands
abbrev pub foot_place : Scene → ℕ → Point
foot_place s step = place_of s (thread_at s.sketch.feet step) step

-- ---- arrows

-- an arrow goes along the row of its first step, in which no other step stands, down beside the lane of its second one,
-- and aslant to that
abbrev pub arrow_at : ℕ → ℕ → Point → Point → Shape
arrow_at far above a b =
    let x = beside far b.x a.x in
    Bend a (corner_of a (record { x = x; y = a.y }) b) (record { x = x; y = b.y - above }) b

-- the two kinds come from other sides, so that one of each can come to one step
abbrev pub arrow_between : Bool → Point → Point → Shape
arrow_between true a b = arrow_at 10 20 a b
arrow_between false a b = arrow_at 20 12 a b

-- whether its first step woke or started the thread of its second one
abbrev pub is_wake : List Footprint → Pair → Bool
is_wake feet arrow = wakes (step_at feet arrow.first) (thread_at feet arrow.second)

-- whether its first step happens before its second one by Rust's order too
abbrev pub is_rusts : List Footprint → Pair → Bool
is_rusts feet arrow = rust_before feet arrow.first arrow.second

-- how it is drawn: by whether it is a wake, and by whether it is Rust's
abbrev pub arrow_sign : Bool → Bool → Sign
arrow_sign true rusts = sign.Wake
arrow_sign false true = sign.Dependence
arrow_sign false false = sign.MachineOrder

abbrev pub arrow_reason : Bool → Bool → List ℕ
arrow_reason true rusts = codes ": it woke or started its thread"
arrow_reason false true = codes ", which depends on it"
arrow_reason false false = codes ", which depends on it; Rust's order has no such arrow"

abbrev pub arrow_title : Pair → Bool → Bool → List ℕ
arrow_title arrow woken rusts =
    step_word arrow.first ++ codes " happens before " ++ step_word arrow.second ++ arrow_reason woken rusts

-- AN ARROW
abbrev pub arrow_mark : Scene → Pair → Mark
arrow_mark s arrow =
    let woken = is_wake s.sketch.feet arrow in
    let rusts = is_rusts s.sketch.feet arrow in
    record {
      sign = arrow_sign woken rusts;
      shape = arrow_between woken (foot_place s arrow.first) (foot_place s arrow.second);
      words = [];
      title = arrow_title arrow woken rusts;
    }

-- ---- races

-- a race goes aslant from its first step, down beside the lane of that, and along the row of its second step; it is
-- drawn from there
abbrev pub race_between : Point → Point → Shape
race_between a b =
    let x = beside 16 a.x b.x in
    Bend b (corner_of b (record { x = x; y = b.y }) a) (record { x = x; y = a.y + 16 }) a

abbrev pub race_shape : Scene → Pair → Shape
race_shape s race = race_between (foot_place s race.first) (foot_place s race.second)

-- whether a race is the first listed one
abbrev pub is_same_race : Pair → Option Pair → Bool
is_same_race race None = false
is_same_race race (Some other) = (race.first == other.first) && (race.second == other.second)

abbrev pub race_sign : Bool → Sign
race_sign true = sign.FirstRace
race_sign false = sign.Race

abbrev pub race_title : Pair → List ℕ
race_title race =
    step_word race.first ++ codes " and " ++ step_word race.second ++ codes " race: neither happens before the other"

-- THE LINE OF A RACE; the first listed one is the strongest
abbrev pub race_mark : Scene → Pair → Mark
race_mark s race = record {
  sign = race_sign (is_same_race race s.first);
  shape = race_shape s race;
  words = [];
  title = race_title race;
}

-- THE RACES THAT HAVE A LINE: of those both of whose steps are drawn, in the order of the list, the first six
abbrev pub drawn_races : Scene → List Pair
drawn_races s = take 6 (races_in s.done s.near)
