-- No arrow and no line of a race comes near the mark of a step that isn't one of its two.
use Rattle.mr_picture.proofs.Common.{◌≡◌, ℕ, ◌+◌, ◌-◌, ◌*◌, ◌<◌, ◌≤◌, ◌⊎◌, inl, inr, Bool, true, false, List, length, refl, sym, subst, arith, if◌then◌else◌, nat_lt, Contains, thread_at, Pair, Drawn, Span, arrows, row_y, arrow_between, arrow_mark, beside, corner_of, foot_place, is_wake, race_between, race_mark, Sketch, done_in, near_in, scene_of, holds_race, is_in, races_in, and_parts, Point, Bend}
use Rattle.std.proofs.Math.Nat.{eq-or-lt_of_le}
use Rattle.std.proofs.lemmas.Bool.{cases_lt}
use Rattle.std.specs.Prelude.{count_by}
use Rattle.mr_picture.specs.Clear.{IsApart, IsClearOf}
use Rattle.mr_picture.specs.Steps.{at_step}
use Rattle.mr_picture.proofs.ArrowLaws.{arrow_is}
use Rattle.mr_picture.proofs.Room.{in_part}
use Rattle.mr_picture.proofs.Within.{from_filter}

-- ---- numbers

-- rows that differ
abbrev IsOtherRow : ℕ → ℕ → Type 0
IsOtherRow y row = (y + 44 ≤ row) ⊎ (row + 44 ≤ y)

-- a point near a row
abbrev IsNear : ℕ → Point → Type 0
IsNear row p = (p.y ≤ row + 20) × (row ≤ p.y + 20)

-- a number beside a lane
abbrev IsBeside : ℕ → ℕ → Type 0
IsBeside x lane = ((lane + 9 ≤ x) × (x ≤ lane + 31)) ⊎ ((x + 9 ≤ lane) × (lane ≤ x + 31))

beside_is : (far x other : ℕ) → 9 ≤ far → far ≤ 31 → far ≤ x → IsBeside (beside far x other) x
beside_is far x other low high le =
    elim (nat_lt x other) as (λ b. IsBeside (if b then x + far else x - far) x) [
      | true ↦ inl (omega (arith, low), omega (arith, high))
      | false ↦ inr (omega (arith, low, le), omega (arith, high, le))
    ]

beside_near : (x other : ℕ) → (beside 10 x other ≤ x + 20) × (x ≤ beside 10 x other + 20)
beside_near x other =
    elim (nat_lt x other) as (λ b. ((if b then x + 10 else x - 10) ≤ x + 20) × (x ≤ (if b then x + 10 else x - 10) + 20)) [
      | true ↦ (omega arith, omega arith)
      | false ↦ (omega arith, omega arith)
    ]

-- ---- parts of a way

-- a part near another row
near_row : (at p q : Point) (row : ℕ) → IsOtherRow at.y row → IsNear row p → IsNear row q → IsApart at p q
near_row at p q row (inl above) hp hq = inr (inr (inl (omega (arith, above, hp.1, hq.1))))
near_row at p q row (inr below) hp hq = inr (inr (inr (omega (arith, below, hp.0, hq.0))))

-- a part upright beside a lane
on_lane : (at p q : Point) (m n x : ℕ) → at.x ≡ 80 + 40 * m → p.x ≡ x → q.x ≡ x → IsBeside x (80 + 40 * n)
    → IsApart at p q
on_lane at p q m n x is hp hq (inl (low, high)) =
    elim (cases_lt n m) [
      | inl less ↦ inr (inl (omega (arith, is, hp, hq, high, less)))
      | inr more ↦ inl (omega (arith, is, hp, hq, low, more))
    ]
on_lane at p q m n x is hp hq (inr (low, high)) =
    elim (cases_lt m n) [
      | inl less ↦ inl (omega (arith, is, hp, hq, high, less))
      | inr more ↦ inr (inl (omega (arith, is, hp, hq, low, more)))
    ]

-- ---- a way

module _ (at from to : Point) (m n x y : ℕ) (is : at.x ≡ 80 + 40 * m) (lane : IsBeside x (80 + 40 * n)) (first : IsOtherRow at.y from.y) (last : IsOtherRow at.y to.y) where
  bend_clear : IsNear to.y (record { x = x; y = y })
      → IsClearOf at (Bend from (corner_of from (record { x = x; y = from.y }) to) (record { x = x; y = y }) to)
  bend_clear near =
      let corner = corner_of from (record { x = x; y = from.y }) to in
      let level : (from.y ≤ from.y + 20) × (from.y ≤ from.y + 20) = (omega arith, omega arith) in
      let end : (to.y ≤ to.y + 20) × (to.y ≤ to.y + 20) = (omega arith, omega arith) in (
        near_row at from corner.before from.y first level level,
        near_row at corner.before corner.behind from.y first level (beside_near from.y to.y),
        on_lane at corner.behind (record { x = x; y = y }) m n x is refl refl lane,
        near_row at (record { x = x; y = y }) to to.y last near end,
      )

pub arrow_clear : (woken : Bool) (at a b : Point) (m n : ℕ) → at.x ≡ 80 + 40 * m → b.x ≡ 80 + 40 * n
    → IsOtherRow at.y a.y → IsOtherRow at.y b.y → IsClearOf at (arrow_between woken a b)
arrow_clear true at a b m n is stands first last =
    bend_clear at a b m n (beside 10 b.x a.x) (b.y - 20) is
    (subst (IsBeside (beside 10 b.x a.x)) stands (beside_is 10 b.x a.x (omega arith) (omega arith) (omega (arith, stands))))
    first last (omega arith, omega arith)
arrow_clear false at a b m n is stands first last =
    bend_clear at a b m n (beside 20 b.x a.x) (b.y - 12) is
    (subst (IsBeside (beside 20 b.x a.x)) stands (beside_is 20 b.x a.x (omega arith) (omega arith) (omega (arith, stands))))
    first last (omega arith, omega arith)

pub race_clear : (at a b : Point) (m n : ℕ) → at.x ≡ 80 + 40 * m → a.x ≡ 80 + 40 * n
    → IsOtherRow at.y a.y → IsOtherRow at.y b.y → IsClearOf at (race_between a b)
race_clear at a b m n is stands first last =
    bend_clear at b a m n (beside 16 a.x b.x) (a.y + 16) is
    (subst (IsBeside (beside 16 a.x b.x)) stands (beside_is 16 a.x b.x (omega arith) (omega arith) (omega (arith, stands))))
    last first (omega arith, omega arith)

-- ---- in a scene

-- steps of other numbers stand in other rows
other_row : (from k n : ℕ) → from ≤ k → from ≤ n → ¬ n ≡ k → IsOtherRow (row_y from n) (row_y from k)
other_row from k n hk hn unlike =
    elim (cases_lt n k) [
      | inl less ↦ inl (omega (arith, hk, hn, less))
      | inr more ↦ elim (eq-or-lt_of_le more) [
        | inl same ↦ absurd (unlike (sym same))
        | inr less ↦ inr (omega (arith, hk, hn, less))
      ]
    ]

module _ (sketch : Sketch) (span : Span) (steps : List Drawn) (step : Drawn) (within : span.from ≤ step.number) where
  -- THE LAW of arrows
  pub arrows_clear : (arrow : Pair) → Contains (arrows sketch.feet (done_in span (length sketch.feet))) arrow
      → ¬ step.number ≡ arrow.first → ¬ step.number ≡ arrow.second
      → IsClearOf (at_step (scene_of sketch span steps) step) (arrow_mark (scene_of sketch span steps) arrow).shape
  arrows_clear arrow there first second =
      let s = scene_of sketch span steps in
      let is = arrow_is sketch.feet s.done arrow there in
      arrow_clear (is_wake sketch.feet arrow) (at_step s step) (foot_place s arrow.first) (foot_place s arrow.second)
      (count_by (λ t. nat_lt t step.thread) s.threads)
      (count_by (λ t. nat_lt t (thread_at sketch.feet arrow.second)) s.threads) refl refl
      (other_row span.from arrow.first step.number is.low within first)
      (other_row span.from arrow.second step.number (omega (arith, is.low, is.rising)) within second)

  -- and of races
  pub races_clear : (race : Pair) → Contains (races_in (done_in span (length sketch.feet)) (near_in span sketch.races)) race
      → ¬ step.number ≡ race.first → ¬ step.number ≡ race.second
      → IsClearOf (at_step (scene_of sketch span steps) step) (race_mark (scene_of sketch span steps) race).shape
  races_clear race there first second =
      let s = scene_of sketch span steps in
      let held = (from_filter (holds_race s.done) s.near race there).1 in
      let both = and_parts (is_in s.done race.first) (is_in s.done race.second) held in
      race_clear (at_step s step) (foot_place s race.first) (foot_place s race.second)
      (count_by (λ t. nat_lt t step.thread) s.threads)
      (count_by (λ t. nat_lt t (thread_at sketch.feet race.first)) s.threads) refl refl
      (other_row span.from race.first step.number (in_part s.done race.first both.0).0 within first)
      (other_row span.from race.second step.number (in_part s.done race.second both.1).0 within second)
