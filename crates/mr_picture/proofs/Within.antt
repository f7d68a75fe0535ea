-- Arrows, races and steps of a part are those of the run.
use Rattle.mr_picture.proofs.Common.{◌≡◌, ℕ, ◌-◌, ◌<◌, ◌≤◌, inl, inr, Bool, true, false, List, [], ◌∷◌, length, get_or, take, drop, refl, sym, subst, arith, and_parts, nat_tests, Contains-append_cases, Contains-append_right, filter-append, All, nat_le, nat_lt, Contains, filter, range_with_len, Footprint, Pair, Span, holds_race, is_in, races_in, steps_in, is_left_out, is_other, left_out, witness_steps}
use Rattle.std.proofs.lemmas.List.{take-append-drop}
use Rattle.std.proofs.lemmas.List.Elements.{All-contains_itself, Contains-append_left}
use Rattle.mr_picture.proofs.Members.{first_of, from_range, none, only}
use Rattle.mr_picture.proofs.WitnessLaws.{no_one, one}

-- what holds of each element
pub each : {X : Type 0} (P : X → Type 0) (xs : List X) → ((x : X) → Contains xs x → P x) → All P xs
each P xs h = λ k d inside. h (get_or xs k d) (All-contains_itself xs k d inside)

-- what a filter keeps is in the list, and passes
pub from_filter : {X : Type 0} (p : X → Bool) (xs : List X) (x : X) → Contains (filter p xs) x
    → Contains xs x × (p x ≡ true)
from_filter p [] x h = absurd (none x h)
from_filter p (y ∷ ys) x h =
    elim (Contains-append_cases (filter p (y ∷ [])) (filter p ys) x
    (subst (λ zs. Contains zs x) (filter-append p (y ∷ []) ys) h)) [
      | inl here ↦ first (p y) refl here
      | inr later ↦
          let t = from_filter p ys x later in (Contains-append_right (y ∷ []) ys x t.0, t.1)
    ]
  where
    first : (b : Bool) → p y ≡ b → Contains (filter p (y ∷ [])) x → Contains (y ∷ ys) x × (p x ≡ true)
    first true e here =
        let same = only y x (subst (λ zs. Contains zs x) (one p y e) here) in
        (subst (λ z. Contains (z ∷ ys) x) (sym same) (first_of x ys), subst (λ z. p z ≡ true) same e)
    first false e here = absurd (none x (subst (λ zs. Contains zs x) (no_one p y e) here))

-- what the front of a list has is in the list
pub from_take : {X : Type 0} (n : ℕ) (xs : List X) (x : X) → Contains (take n xs) x → Contains xs x
from_take n xs x h =
    subst (λ zs. Contains zs x) (take-append-drop n xs) (Contains-append_left (take n xs) (drop n xs) x h)

abbrev pub IsPairOf : List Footprint → Pair → Type 0
IsPairOf run pair = (pair.first < length run) × (pair.second < length run)

in_run : (run : List Footprint) (span : Span) (k : ℕ) → span.to ≤ length run → is_in span k ≡ true → k < length run
in_run run span k le e =
    let both = and_parts (nat_le span.from k) (nat_lt k span.to) e in
    let lt : k < span.to = grind (arith, nat_tests, both.1) in
    omega (arith, le, lt)

pub races_within : (run : List Footprint) (span : Span) (races : List Pair) → span.to ≤ length run
    → All (IsPairOf run) (races_in span races)
races_within run span races le =
    each (IsPairOf run) (races_in span races) (λ r h.
    let both = and_parts (is_in span r.first) (is_in span r.second) (from_filter (holds_race span) races r h).1 in
    (in_run run span r.first le both.0, in_run run span r.second le both.1))

-- what is left out, or drawn in the witness's order, lies below each number below which the part does
pub left_below : (run : List Footprint) (race : Pair) (span : Span) (m : ℕ) → span.to ≤ m
    → All (λ k. k < m) (left_out run race span)
left_below run race span m le =
    each (λ k. k < m) (left_out run race span) (λ k h.
    let t = from_range span.from (span.to - span.from) k (from_filter (is_left_out run race) (steps_in span) k h).0 in
    omega (arith, le, t))

pub witness_below : (run : List Footprint) (race : Pair) (from m : ℕ) → race.first < m → race.second < m
    → All (λ k. k < m) (witness_steps run race from)
witness_below run race from m first second =
    each (λ k. k < m) (witness_steps run race from) (λ k h.
    elim (Contains-append_cases (filter (is_other run race) (range_with_len from (race.second - from)))
    (race.first ∷ race.second ∷ []) k h) [
      | inl before ↦
          let t = from_range from (race.second - from) k
          (from_filter (is_other run race) (range_with_len from (race.second - from)) k before).0 in
          omega (arith, second, t)
      | inr last ↦
          elim (Contains-append_cases (race.first ∷ []) (race.second ∷ []) k last) [
            | inl a ↦ subst (λ n. n < m) (only race.first k a) first
            | inr b ↦ subst (λ n. n < m) (only race.second k b) second
          ]
    ])
