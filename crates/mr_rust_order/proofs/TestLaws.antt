-- The tests decide Rust's order and its races, and the list is that of the races.
use Rattle.mr_rust_order.proofs.Common.{◌≡◌, ℕ, suc, zero, ◌<◌, ◌≤◌, ◌+◌, ◌-◌, List, [], ◌∷◌, ◌++◌, length, Bool, true, false, cond, ◌↔◌, refl, sym, ◌∙◌, ap, subst, inl, inr, arith, Option, Some, None, ℕ_discrete, not, ◌&&◌, ◌||◌, ◌==◌, MatchOption, Contains, list_any, both_ways, eq-eqb, ne_eqb, and_from, and_parts, or_cases, not-true, false≢true, ltb-true, lt-ltb, or_left, or_right, some_race, Access, Event, Quiet, CreateLock, Acquire, Release, Spawn, Join, Footprint, Pair, wakes, step_at, thread_at, AreRaces, AreRacesBelow, Edge, HappensBefore, HasNoRace, IsGreatestRace, IsRace, IsReadBy, Makes, has_byte, is_atomic_load, is_atomic_store, is_plain_store, is_store, releases, in_thread, started, handed_over, joined, stored, edge, chain}
use Rattle.std.proofs.Common.{add-one, append-nil}
use Rattle.std.specs.List.{range_with_len}
use Rattle.std.proofs.lemmas.Bool.{eqb-true, cases_Bool}
use Rattle.std.proofs.lemmas.List.Folds.{Any-from_list_any, list_any_at}
use Rattle.mr_event.specs.Order.{places}
use Rattle.mr_event.specs.Predicted.{greatest_below, pair_with}
use Rattle.mr_event.proofs.Tests.{not_false, any_range, any_range_at}
use Rattle.mr_rust_order.specs.Tests.{chained, hands_over, happens_before, has_edge, has_race, joins, makes, races_below, reads, reads_byte, reads_in, rust_races, stored_between}
use Rattle.mr_rust_order.proofs.AccessLaws.{byte_from}
use Rattle.mr_rust_order.proofs.OneList.{one_list}
use Rattle.mr_rust_order.proofs.OrderLaws.{Edge-before, HappensBefore-before, last_edge}
use Rattle.mr_rust_order.proofs.StepLaws.{races_more, races_none, races_same}

-- ---- what is read

makes_from : (test : Access → ℕ → Bool) (f : Footprint) (byte : ℕ) → makes test f byte ≡ true → Makes test f byte
makes_from test f byte h =
    let one = Any-from_list_any (λ (a : Access). test a byte) f.accesses h in
    (one.1, (one.0, one.2, one.3), one.4)

makes_to : (test : Access → ℕ → Bool) (f : Footprint) (byte : ℕ) → Makes test f byte → makes test f byte ≡ true
makes_to test f byte (a, (k, lt, e), is) =
    list_any_at (λ (x : Access). test x byte) f.accesses k a lt (ap (λ (x : Access). test x byte) e ∙ is)

makes_none : (test : Access → ℕ → Bool) (f : Footprint) (byte : ℕ) → (Makes test f byte → ⊥) → not (makes test f byte) ≡ true
makes_none test f byte none =
    not_false _ (elim (cases_Bool (makes test f byte)) [ inl e ↦ absurd (none (makes_from test f byte e)) | inr e ↦ e ])

none_between : (run : List Footprint) (i j byte : ℕ) → i < j → ((k : ℕ) → i < k → k < j → Makes is_store (step_at run k) byte → ⊥) → not (stored_between run i j byte) ≡ true
none_between run i j byte lt last =
    not_false _ (elim (cases_Bool (stored_between run i j byte)) [
      | inl e ↦
          let t = any_range (λ k. makes is_store (step_at run k) byte) (i + 1) (j - (i + 1)) e in
          absurd (last t.0 (omega (arith, t.1)) (omega (arith, lt, t.2)) (makes_from is_store (step_at run t.0) byte t.3))
      | inr e ↦ e
    ])

read_from : (run : List Footprint) (i j byte : ℕ) → reads_byte run i j byte ≡ true → IsReadBy run i j byte
read_from run i j byte h =
    let one = and_parts _ _ h in
    let two = and_parts _ _ one.0 in
    let three = and_parts _ _ two.0 in
    let four = and_parts _ _ three.0 in
    let lt : i < j = ltb-true i j four.0 in
    record {
      before = lt;
      load = makes_from is_atomic_load (step_at run j) byte four.1;
      store = makes_from is_atomic_store (step_at run i) byte three.1;
      atomic = λ m. both_ways _ (not-true _ two.1) (makes_to is_plain_store (step_at run i) byte m);
      last = λ k low high m. both_ways _ (not-true _ one.1)
          (any_range_at (λ n. makes is_store (step_at run n) byte) (i + 1) (j - (i + 1)) k (omega arith) (omega arith) (makes_to is_store (step_at run k) byte m));
    }

read_to : (run : List Footprint) (i j byte : ℕ) → IsReadBy run i j byte → reads_byte run i j byte ≡ true
read_to run i j byte r =
    and_from _ _
    (and_from _ _
    (and_from _ _ (and_from _ _ (lt-ltb i j r.before) (makes_to is_atomic_load (step_at run j) byte r.load)) (makes_to is_atomic_store (step_at run i) byte r.store))
    (makes_none is_plain_store (step_at run i) byte r.atomic))
    (none_between run i j byte r.before r.last)

reads_to : (run : List Footprint) (i j byte : ℕ) → IsReadBy run i j byte → reads run i j ≡ true
reads_to run i j byte r = at_load r.load
  where
    at_load : Makes is_atomic_load (step_at run j) byte → reads run i j ≡ true
    at_load (a, (k, lt, e), is) =
        let own = byte_from a byte (and_parts (not a.store && a.atomic) (has_byte a byte) is).1 in
        let here : reads_in run i j a ≡ true = any_range_at (reads_byte run i j) a.addr a.len byte own.0 own.1 (read_to run i j byte r) in
        list_any_at (reads_in run i j) (step_at run j).accesses k a lt (ap (reads_in run i j) e ∙ here)

reads_from : (run : List Footprint) (i j : ℕ) → reads run i j ≡ true → Edge run i j
reads_from run i j h =
    let one = Any-from_list_any (reads_in run i j) (step_at run j).accesses h in
    let two = any_range (reads_byte run i j) one.1.addr one.1.len one.4 in
    stored two.0 (read_from run i j two.0 two.3)

-- ---- events

handed_from : (d e : Event) → hands_over d e ≡ true → (lock : ℕ) × (releases d lock ≡ true) × (e ≡ Acquire lock)
handed_from d Quiet h = absurd (false≢true h)
handed_from d (CreateLock lock) h = absurd (false≢true h)
handed_from d (Acquire lock) h = (lock, h, refl)
handed_from d (Release lock) h = absurd (false≢true h)
handed_from d (Spawn thread) h = absurd (false≢true h)
handed_from d (Join thread) h = absurd (false≢true h)

handed_to : (d e : Event) (lock : ℕ) → releases d lock ≡ true → e ≡ Acquire lock → hands_over d e ≡ true
handed_to d e lock h is = ap (hands_over d) is ∙ h

joins_from : (e : Event) (thread : ℕ) → joins e thread ≡ true → e ≡ Join thread
joins_from Quiet thread h = absurd (false≢true h)
joins_from (CreateLock lock) thread h = absurd (false≢true h)
joins_from (Acquire lock) thread h = absurd (false≢true h)
joins_from (Release lock) thread h = absurd (false≢true h)
joins_from (Spawn other) thread h = absurd (false≢true h)
joins_from (Join other) thread h = ap Join (eqb-true other thread h)

joins_to : (e : Event) (thread : ℕ) → e ≡ Join thread → joins e thread ≡ true
joins_to e thread is = ap (λ (x : Event). joins x thread) is ∙ eq-eqb thread thread refl

-- ---- edges

edge_test : (run : List Footprint) (i j : ℕ) → Edge run i j → has_edge run i j ≡ true
edge_test run i j (in_thread lt same) =
    and_from _ _ (lt-ltb i j lt) (or_left _ _ (or_left _ _ (or_left _ _ (or_left _ _ (eq-eqb _ _ same)))))
edge_test run i j (started lt woken) = and_from _ _ (lt-ltb i j lt) (or_left _ _ (or_left _ _ (or_left _ _ (or_right _ _ woken))))
edge_test run i j (handed_over lock lt released acquires) =
    and_from _ _ (lt-ltb i j lt)
    (or_left _ _ (or_left _ _ (or_right _ _ (handed_to (step_at run i).event (step_at run j).event lock released acquires))))
edge_test run i j (joined lt ended waits) =
    and_from _ _ (lt-ltb i j lt)
    (or_left _ _ (or_right _ _ (and_from _ _ ended (joins_to (step_at run j).event (thread_at run i) waits))))
edge_test run i j (stored byte r) = and_from _ _ (lt-ltb i j r.before) (or_right _ _ (reads_to run i j byte r))

test_edge : (run : List Footprint) (i j : ℕ) → has_edge run i j ≡ true → Edge run i j
test_edge run i j h =
    let parts = and_parts _ _ h in
    let lt : i < j = ltb-true i j parts.0 in
    elim (or_cases _ _ parts.1) [
      | inl a ↦ elim (or_cases _ _ a) [
        | inl b ↦ elim (or_cases _ _ b) [
          | inl c ↦ elim (or_cases _ _ c) [
            | inl same ↦ in_thread lt (eqb-true _ _ same)
            | inr woken ↦ started lt woken
          ]
          | inr over ↦ let t = handed_from (step_at run i).event (step_at run j).event over in handed_over t.0 lt t.1 t.2
        ]
        | inr ends ↦ let two = and_parts _ _ ends in joined lt two.0 (joins_from (step_at run j).event (thread_at run i) two.1)
      ]
      | inr r ↦ reads_from run i j r
    ]

pub has_edge_is : (run : List Footprint) (i j : ℕ) → has_edge run i j ≡ true ↔ Edge run i j
has_edge_is run i j = (test_edge run i j, edge_test run i j)

-- ---- happens-before

chained_before : (run : List Footprint) (n i j : ℕ) → chained run n i j ≡ true → HappensBefore run i j
chained_before run zero i j h = absurd (false≢true h)
chained_before run (suc n) i j h =
    elim (or_cases _ _ h) [
      | inl e ↦ edge (test_edge run i j e)
      | inr e ↦
          let t = any_range (λ k. chained run n i k && has_edge run k j) 0 j e in
          let parts = and_parts _ _ t.3 in
          chain (chained_before run n i t.0 parts.0) (edge (test_edge run t.0 j parts.1))
    ]

before_chained : (run : List Footprint) (n i j : ℕ) → j ≤ n → HappensBefore run i j → chained run n i j ≡ true
before_chained run zero i j le h = absurd (let lt = HappensBefore-before h in omega arith)
before_chained run (suc n) i j le h =
    let t = last_edge run h in
    let lt : t.0 < j = Edge-before t.2 in
    let last : has_edge run t.0 j ≡ true = edge_test run t.0 j t.2 in
    elim t.1 [
      | inl same ↦ or_left (has_edge run i j) (list_any (λ k. chained run n i k && has_edge run k j) (places j))
          (ap (λ (k : ℕ). has_edge run k j) same ∙ last)
      | inr before ↦ or_right (has_edge run i j) (list_any (λ k. chained run n i k && has_edge run k j) (places j))
          (any_range_at (λ k. chained run n i k && has_edge run k j) 0 j t.0 (omega arith) (omega arith)
          (and_from _ _ (before_chained run n i t.0 (omega arith) before) last))
    ]

pub happens_before_is : (run : List Footprint) (i j : ℕ) → happens_before run i j ≡ true ↔ HappensBefore run i j
unfolding happens_before
happens_before_is run i j = (chained_before run j i j, before_chained run j i j (omega arith))

-- what answers whether a step happens before another is the test
pub before_is : (run : List Footprint) (i j : ℕ) (b : Bool) → b ≡ true ↔ HappensBefore run i j → b ≡ happens_before run i j
before_is run i j true h = sym ((happens_before_is run i j).1 (h.0 refl))
before_is run i j false h =
    elim (cases_Bool (happens_before run i j)) [
      | inl e ↦ h.1 ((happens_before_is run i j).0 e) ∙ sym e
      | inr e ↦ sym e
    ]

-- ---- races

pub has_race_is : (run : List Footprint) (i j : ℕ) → has_race run i j ≡ true ↔ IsRace run i j
unfolding has_race
has_race_is run i j = (forth, back)
  where
    forth : has_race run i j ≡ true → IsRace run i j
    forth h =
        let one = and_parts _ _ h in
        let two = and_parts _ _ one.0 in
        let three = and_parts _ _ two.0 in
        record {
          before = ltb-true i j three.0;
          apart = λ e. both_ways _ (not-true _ three.1) (eq-eqb _ _ e);
          race = two.1;
          unordered = λ b. both_ways _ (not-true _ one.1) ((happens_before_is run i j).1 b);
        }

    back : IsRace run i j → has_race run i j ≡ true
    back r =
        and_from _ _ (and_from _ _ (and_from _ _ (lt-ltb i j r.before) (not_false _ (ne_eqb _ _ r.apart))) r.race)
        (not_false _ (elim (cases_Bool (happens_before run i j)) [
          | inl e ↦ absurd (r.unordered ((happens_before_is run i j).0 e))
          | inr e ↦ e
        ]))

-- the greatest number below n that passes, or none does
abbrev IsGreatestBelow : (ℕ → Bool) → ℕ → Option ℕ → Type 0
IsGreatestBelow p n o = MatchOption o ((k : ℕ) → k < n → p k ≡ false) (λ i. (i < n) × (p i ≡ true) × ((k : ℕ) → i < k → k < n → p k ≡ false))

greatest_below_is : (p : ℕ → Bool) (n : ℕ) → IsGreatestBelow p n (greatest_below p n)
greatest_below_is p zero = λ k lt. absurd (omega arith)
greatest_below_is p (suc n) = by (p n) refl (greatest_below p n) (greatest_below_is p n)
  where
    by : (b : Bool) → p n ≡ b → (o : Option ℕ) → IsGreatestBelow p n o → IsGreatestBelow p (suc n) (cond b (Some n) o)
    by true e o h = (omega arith, e, λ k low high. absurd (omega arith))
    by false e None h = λ k lt. elim (ℕ_discrete k n) [ yes same ↦ subst (λ (x : ℕ). p x ≡ false) (sym same) e | no other ↦ h k (omega arith) ]
    by false e (Some i) h = (omega (arith, h.0), h.1, λ k low high. elim (ℕ_discrete k n) [ yes same ↦ subst (λ (x : ℕ). p x ≡ false) (sym same) e | no other ↦ h.2 k low (omega arith) ])

race_from : (run : List Footprint) (j : ℕ) → MatchOption (greatest_below (λ i. has_race run i j) j) (HasNoRace run j) (λ i. IsGreatestRace run i j)
race_from run j = by (greatest_below (λ i. has_race run i j) j) (greatest_below_is (λ i. has_race run i j) j)
  where
    by : (o : Option ℕ) → IsGreatestBelow (λ i. has_race run i j) j o → MatchOption o (HasNoRace run j) (λ i. IsGreatestRace run i j)
    by None h = λ i r. both_ways _ (h i r.before) ((has_race_is run i j).1 r)
    by (Some i) h = record {
      race = (has_race_is run i j).0 h.1;
      greatest = λ k low r. both_ways _ (h.2 k low r.before) ((has_race_is run k j).1 r);
    }

listed_step : (run : List Footprint) (n : ℕ) (pairs : List Pair) (o : Option ℕ) → AreRacesBelow run n pairs → MatchOption o (HasNoRace run n) (λ i. IsGreatestRace run i n) → AreRacesBelow run (suc n) (pairs ++ pair_with o n)
listed_step run n pairs None h k = rw append-nil (subst (λ (m : ℕ). AreRacesBelow run m pairs) (add-one n) (races_same run n pairs h k))
listed_step run n pairs (Some i) h k =
    subst (λ (m : ℕ). AreRacesBelow run m (pairs ++ record { first = i; second = n } ∷ [])) (add-one n) (races_more run n i pairs h k)

listed_below : (run : List Footprint) (n : ℕ) → AreRacesBelow run n (races_below run n)
listed_below run zero = races_none run [] refl
listed_below run (suc n) = listed_step run n (races_below run n) (greatest_below (λ i. has_race run i n) n) (listed_below run n) (race_from run n)

-- THE LIST is that of the races
pub rust_races_are : (run : List Footprint) → AreRaces run (rust_races run)
unfolding rust_races
rust_races_are run = listed_below run (length run)

-- and no other list is
pub races_only : (run : List Footprint) (pairs : List Pair) → AreRaces run pairs → pairs ≡ rust_races run
races_only run pairs h = one_list run pairs (rust_races run) h (rust_races_are run)
