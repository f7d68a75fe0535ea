-- What has room in a picture, by numbers alone.
use Rattle.mr_picture.proofs.Common.{◌≡◌, ℕ, ◌+◌, ◌-◌, ◌<◌, ◌≤◌, Bool, true, false, List, [], ◌++◌, length, take, refl, arith, length-append, and_parts, nat_tests, nat_le, nat_lt, codes, if◌then◌else◌, Span, is_in, Point, Bend, arrow_between, beside, corner_of, race_between, cut_at}
use Rattle.std.proofs.lemmas.List.{length-take}
use Rattle.mr_picture.specs.Inside.{IsPointInside, IsRoundInside, IsShapeInside}

-- so far from a lane is no further right than that
pub beside_le : (far x other : ℕ) → beside far x other ≤ x + far
beside_le far x other =
    elim (nat_lt x other) as (λ b. (if b then x + far else x - far) ≤ x + far) [
      | true ↦ omega arith
      | false ↦ omega arith
    ]

-- a text that is cut
pub cut_short : (most : ℕ) (text : List ℕ) → length (cut_at most text) ≤ most + 3
cut_short most text = by (nat_le (length text) most) refl
  where
    by : (b : Bool) → nat_le (length text) most ≡ b
        → length (if b then text else take most text ++ codes " ..") ≤ most + 3
    by true e = let le : length text ≤ most = grind (arith, nat_tests, e) in omega (arith, le)
    by false e = omega (arith, length-append (take most text) (codes " .."), length-take most text)

-- a step that is one of a part
pub in_part : (span : Span) (k : ℕ) → is_in span k ≡ true → (span.from ≤ k) × (k < span.to)
in_part span k e =
    let both = and_parts (nat_le span.from k) (nat_lt k span.to) e in
    (grind (arith, nat_tests, both.0), grind (arith, nat_tests, both.1))

-- a picture so wide and so high, with the texts of steps from a place on and with the rows up to one
module _ (wide high text end : ℕ) (fits : text + 520 ≤ wide) (deep : end + 80 ≤ high) where
  -- a point in a lane and a row
  pub record IsPlace (at : Point) : Type 0 where
    pub left : 80 ≤ at.x
    pub right : at.x ≤ text
    pub above : 120 ≤ at.y
    pub below : at.y + 22 ≤ end

  pub point_inside : (at : Point) → IsPlace at → IsPointInside wide high at
  point_inside at h = record {
    across = omega (arith, fits, h.right);
    down = omega (arith, deep, h.below);
  }

  pub round_inside : (at : Point) → IsPlace at → IsRoundInside wide high at
  round_inside at h = record {
    left = omega (arith, h.left);
    right = omega (arith, fits, h.right);
    above = omega (arith, h.above);
    below = omega (arith, deep, h.below);
  }

  -- a way with a corner that has room
  bend_inside : (from at come to : Point) → IsPointInside wide high from → at.x + 10 ≤ wide → at.y + 10 ≤ high
      → IsPointInside wide high come → IsPointInside wide high to
      → IsShapeInside wide high [] (Bend from (corner_of from at to) come to)
  bend_inside from at come to begins across down comes ends = (
    begins,
    record { across = omega (arith, across, beside_le 10 at.x from.x); down = omega (arith, down) },
    record { across = omega (arith, across); down = omega (arith, down) },
    record { across = omega (arith, across); down = omega (arith, down, beside_le 10 at.y to.y) },
    comes,
    ends,
  )

  pub arrow_inside : (woken : Bool) (a b : Point) → IsPlace a → IsPlace b
      → IsShapeInside wide high [] (arrow_between woken a b)
  arrow_inside true a b ha hb =
      bend_inside a (record { x = beside 10 b.x a.x; y = a.y }) (record { x = beside 10 b.x a.x; y = b.y - 20 }) b
      (point_inside a ha) (omega (arith, fits, hb.right, beside_le 10 b.x a.x)) (omega (arith, deep, ha.below))
      (record { across = omega (arith, fits, hb.right, beside_le 10 b.x a.x); down = omega (arith, deep, hb.below) })
      (point_inside b hb)
  arrow_inside false a b ha hb =
      bend_inside a (record { x = beside 20 b.x a.x; y = a.y }) (record { x = beside 20 b.x a.x; y = b.y - 12 }) b
      (point_inside a ha) (omega (arith, fits, hb.right, beside_le 20 b.x a.x)) (omega (arith, deep, ha.below))
      (record { across = omega (arith, fits, hb.right, beside_le 20 b.x a.x); down = omega (arith, deep, hb.below) })
      (point_inside b hb)

  pub race_inside : (a b : Point) → IsPlace a → IsPlace b → IsShapeInside wide high [] (race_between a b)
  race_inside a b ha hb =
      bend_inside b (record { x = beside 16 a.x b.x; y = b.y }) (record { x = beside 16 a.x b.x; y = a.y + 16 }) a
      (point_inside b hb) (omega (arith, fits, ha.right, beside_le 16 a.x b.x)) (omega (arith, deep, hb.below))
      (record { across = omega (arith, fits, ha.right, beside_le 16 a.x b.x); down = omega (arith, deep, ha.below) })
      (point_inside a ha)
