-- What is said of a race that one list has alone is true of the orders.
use Rattle.mr_two_orders.proofs.Common.{◌≡◌, ℕ, ◌<◌, ◌≤◌, Bool, true, false, cond, arith, List, [], ◌∷◌, length, get_or, refl, sym, ap, subst, ◌∙◌, inl, inr, Option, None, Some, not, Contains, find, Footprint, Pair, IsRising, partner}
use Rattle.std.proofs.lemmas.Bool.{both_ways, cases_Bool}
use Rattle.std.specs.Prelude.{Any, IfSome}
use Rattle.mr_event.specs.Order.{Edge, HappensBefore, IsGreatestPartner, RacePair, Sync}
use Rattle.mr_event.specs.Predicted.{happens_before, predicted}
use Rattle.mr_event.proofs.Ordered.{HappensBefore-before}
use Rattle.mr_event.proofs.Tests.{happens_before_is, predicted_is}
use Rattle.mr_rust_order.specs.Gaps.{first_gap, is_gap, links}
use Rattle.mr_rust_order.specs.Order.Edge.{started}
use Rattle.mr_picture.specs.Way.{IsWay, way}
use Rattle.mr_picture.proofs.WayLaws.{way_leads}
use Rattle.mr_two_orders.specs.Pairs.{IsUnlisted}
use Rattle.mr_rust_order.specs.Order.{HappensBefore as HappensBeforeByRust, IsGreatestRace, IsRace}
use Rattle.mr_rust_order.specs.Order.HappensBefore.{edge as by_edge, chain as by_chain}
use Rattle.mr_rust_order.specs.Tests.{happens_before as before_by_rust, rust_races}
use Rattle.mr_rust_order.proofs.TestLaws.{happens_before_is as before_by_rust_is, rust_races_are}
use Rattle.mr_two_orders.proofs.PairLaws.{partner_there, predicted_rises, rust_rises}

-- the step with which a list has a race's second step lies before its first, where the list hasn't the race
other_before : (pairs : List Pair) (pair : Pair) (k : ℕ) (q : Pair) → k < length pairs → get_or pairs k q ≡ q → q.second ≡ pair.second
    → IsRising pairs → IsUnlisted pairs pair → q.first < pair.first
other_before pairs pair k q lt is same rises h =
    subst (λ (o : Option ℕ). IfSome o (λ other. other < pair.first)) (ap (partner pairs) (sym same) ∙ partner_there pairs k q lt is rises) h

-- ---- Rust's list alone

rust_race : (run : List Footprint) (pair : Pair) → Contains (rust_races run) pair
    → IsGreatestRace run pair.first pair.second × (pair.second < length run)
rust_race run pair (k, lt, is) = (
  subst (λ (q : Pair). IsGreatestRace run q.first q.second) is ((rust_races_are run).listed k pair lt),
  subst (λ (q : Pair). q.second < length run) is ((rust_races_are run).within k pair lt),
)

-- a race of Rust's order that the machine's hasn't in order is one of the machine's
machine_pair : (run : List Footprint) (i j : ℕ) → IsRace run i j → (HappensBefore run i j → ⊥) → RacePair run i j
machine_pair run i j race free =
    record {
      before = race.before;
      races = record {
        apart = race.apart;
        race = race.race;
        unsynced = λ (s : Sync run i j). race.unordered (by_edge (started s.before s.woken));
      };
      unordered = free;
    }

not_free : (run : List Footprint) (pair : Pair) → IsGreatestRace run pair.first pair.second → pair.second < length run
    → IsUnlisted (predicted run) pair → (HappensBefore run pair.first pair.second → ⊥) → ⊥
not_free run pair greatest within h free =
    let race = machine_pair run pair.first pair.second greatest.race free in
    let t = (predicted_is run).complete pair.first pair.second within race in
    let other : IsGreatestPartner run t.1.first t.1.second =
    subst (λ (q : Pair). IsGreatestPartner run q.first q.second) t.3 ((predicted_is run).listed t.0 t.1 t.2) in
    other.greatest pair.first (other_before (predicted run) pair t.0 t.1 t.2 t.3 t.4 (predicted_rises run) h)
    (subst (λ (j : ℕ). RacePair run pair.first j) (sym t.4) race)

pub in_machines_order : (run : List Footprint) (pair : Pair) → Contains (rust_races run) pair → IsUnlisted (predicted run) pair
    → HappensBefore run pair.first pair.second
in_machines_order run pair there h =
    let race = rust_race run pair there in
    elim (cases_Bool (happens_before run pair.first pair.second)) [
      | inl e ↦ (happens_before_is run pair.first pair.second).0 e
      | inr e ↦ absurd (not_free run pair race.0 race.1 h
          (λ before. both_ways _ e ((happens_before_is run pair.first pair.second).1 before)))
    ]

-- ---- the machine's list alone

machine_race : (run : List Footprint) (pair : Pair) → Contains (predicted run) pair
    → IsGreatestPartner run pair.first pair.second × (pair.second < length run)
machine_race run pair (k, lt, is) = (
  subst (λ (q : Pair). IsGreatestPartner run q.first q.second) is ((predicted_is run).listed k pair lt),
  subst (λ (q : Pair). q.second < length run) is ((predicted_is run).within k pair lt),
)

rust_pair : (run : List Footprint) (i j : ℕ) → RacePair run i j → (HappensBeforeByRust run i j → ⊥) → IsRace run i j
rust_pair run i j pair free =
    record { before = pair.before; apart = pair.races.apart; race = pair.races.race; unordered = free }

not_free_by_rust : (run : List Footprint) (pair : Pair) → IsGreatestPartner run pair.first pair.second → pair.second < length run
    → IsUnlisted (rust_races run) pair → (HappensBeforeByRust run pair.first pair.second → ⊥) → ⊥
not_free_by_rust run pair greatest within h free =
    let race = rust_pair run pair.first pair.second greatest.pair free in
    let t = (rust_races_are run).complete pair.first pair.second within race in
    let other : IsGreatestRace run t.1.first t.1.second =
    subst (λ (q : Pair). IsGreatestRace run q.first q.second) t.3 ((rust_races_are run).listed t.0 t.1 t.2) in
    other.greatest pair.first (other_before (rust_races run) pair t.0 t.1 t.2 t.3 t.4 (rust_rises run) h)
    (subst (λ (j : ℕ). IsRace run pair.first j) (sym t.4) race)

pub in_rusts_order : (run : List Footprint) (pair : Pair) → Contains (predicted run) pair → IsUnlisted (rust_races run) pair
    → HappensBeforeByRust run pair.first pair.second
in_rusts_order run pair there h =
    let race = machine_race run pair there in
    elim (cases_Bool (before_by_rust run pair.first pair.second)) [
      | inl e ↦ (before_by_rust_is run pair.first pair.second).0 e
      | inr e ↦ absurd (not_free_by_rust run pair race.0 race.1 h
          (λ before. both_ways _ e ((before_by_rust_is run pair.first pair.second).1 before)))
    ]

-- ---- the link that is told

abbrev IsLeft : List Footprint → ℕ → List ℕ → Type 0
IsLeft run i way =
    (link : Pair) × (first_gap run i way ≡ Some link) × Edge run link.first link.second
    × (HappensBeforeByRust run link.first link.second → ⊥)

left_on : (run : List Footprint) (i j : ℕ) (way : List ℕ) → IsWay run i j way → (i ≡ j → ⊥) → (HappensBeforeByRust run i j → ⊥) → IsLeft run i way
left_on run i j [] same apart free = absurd (apart same)
left_on run i j (k ∷ way) (e, rest) apart free = by (before_by_rust run i k) refl (left_on run k j way rest)
  where
    by : (b : Bool) → before_by_rust run i k ≡ b → ((k ≡ j → ⊥) → (HappensBeforeByRust run k j → ⊥) → IsLeft run k way) → IsLeft run i (k ∷ way)
    by true is on =
        let here = (before_by_rust_is run i k).0 is in
        let t = on (λ same. free (subst (HappensBeforeByRust run i) same here)) (λ later. free (by_chain here later)) in (
          t.0,
          ap (λ b. cond (not b) (Some (record { first = i; second = k })) (find (is_gap run) (links k way))) is ∙ t.1,
          t.2,
          t.3,
        )
    by false is on = (
      record { first = i; second = k },
      ap (λ b. cond (not b) (Some (record { first = i; second = k })) (find (is_gap run) (links k way))) is,
      e,
      λ before. both_ways _ is ((before_by_rust_is run i k).1 before),
    )

pub a_link_is_left : (run : List Footprint) (i j : ℕ) → HappensBefore run i j → (HappensBeforeByRust run i j → ⊥)
    → IsLeft run i (way run i j)
a_link_is_left run i j before free =
    let less = HappensBefore-before before in
    left_on run i j (way run i j) (way_leads run i j before) (λ same. omega (arith, less, same)) free
