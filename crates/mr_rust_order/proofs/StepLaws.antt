-- The clock before a step, by what it receives and loads; and the lists of races, one more step at a time.
use Rattle.mr_rust_order.proofs.Common.{◌≡◌, ℕ, ◌+◌, ◌^◌, ◌<◌, List, [], ◌∷◌, ◌++◌, length, slice_index, sym, ap, subst, inl, inr, ◌⊎◌, arith, dec_lt, and_parts, Footprint, step_at, thread_at, Pair, Row, AreChannels, IsThreadClock, to_joiners, to_lock, told_by, IsClockBefore, IsClockBehind, IsJoin, IsRaised, IsUnder, Reaches, AreJoined, IsLatestStore, IsReadOf, AreRacesBelow, Edge, HappensBefore, HasNoRace, IsGreatestRace, IsRace, Makes, has_byte, is_atomic_load, stored, AreRows, row_at}
use Rattle.std.proofs.lemmas.List.Elements.{All-push, All-weaker}
use Rattle.std.proofs.lemmas.List.Quantifiers.{all_pairs_push, Any-push}
use Rattle.mr_base.proofs.Lists.{Any-append_left}
use Rattle.mr_rust_order.specs.Rows.{AreShort, is_release}
use Rattle.mr_rust_order.proofs.ChannelLaws.{received, thread_before, told_before}
use Rattle.mr_rust_order.proofs.ClockLaws.{join_cases, join_one, join_other, raised_on, under_raised}
use Rattle.mr_rust_order.proofs.LoadLaws.{loaded_source, source_loaded}
use Rattle.mr_rust_order.proofs.OrderLaws.{last_edge, reach_edge}

-- the clock of the latest store is the one behind its step
latest_clock : (run : List Footprint) (j : ℕ) (rows : List Row) (byte x : ℕ) → AreRows run j rows → IsLatestStore rows byte x → IsClockBehind run (row_at rows x).clock (row_at rows x).last
latest_clock run j rows byte x rs l = (rs.each x l.within).clock (and_parts (is_release (row_at rows x).range) (has_byte (row_at rows x).range byte) l.store).0

loaded_before : (run : List Footprint) (j : ℕ) (rows : List Row) (f : Footprint) (k x : ℕ) → AreRows run j rows → f ≡ step_at run j → IsReadOf rows f.accesses x → IsUnder run (row_at rows x).clock k → HappensBefore run k j
loaded_before run j rows f k x rs at r under =
    let byte = r.2.0 in
    let latest = r.2.2 in
    let load : Makes is_atomic_load (step_at run j) byte = subst (λ (g : Footprint). Makes is_atomic_load g byte) at (r.0, r.1, r.2.1) in
    reach_edge run k (row_at rows x).last j ((latest_clock run j rows byte x rs latest).only k under) (stored byte (loaded_source run j rows byte x rs load latest))

pub clock_made : (run : List Footprint) (j : ℕ) (f : Footprint) (locks ended : List (List ℕ)) (rows : List Row) (one two clock : List ℕ) → f ≡ step_at run j
    → IsThreadClock run j one → AreChannels run j to_lock locks → AreChannels run j to_joiners ended → AreRows run j rows
    → IsJoin one (told_by f.event locks ended) two → AreJoined rows (IsReadOf rows f.accesses) two clock
    → IsClockBefore run clock j
clock_made run j f locks ended rows one two clock at t l d rs second joins =
    record { only = λ k under. part k (joins.only (thread_at run k) k under); all = λ k h. known k (last_edge run h) }
  where
    of_event : f.event ≡ (step_at run j).event
    of_event = ap (λ (g : Footprint). g.event) at

    by_event : (k : ℕ) → (k < slice_index one (thread_at run k)) ⊎ (k < slice_index (told_by f.event locks ended) (thread_at run k)) → HappensBefore run k j
    by_event k (inl under) = thread_before run j k (t.only k under)
    by_event k (inr under) = told_before run j locks ended l d f.event (sym of_event) k under

    part : (k : ℕ) → (k < slice_index two (thread_at run k)) ⊎ ((x : ℕ) × IsReadOf rows f.accesses x × (k < slice_index (row_at rows x).clock (thread_at run k))) → HappensBefore run k j
    part k (inl under) = by_event k (join_cases one (told_by f.event locks ended) two (thread_at run k) k second under)
    part k (inr r) = loaded_before run j rows f k r.0 rs at r.1 r.2

    from_thread : IsRaised one clock
    from_thread = raised_on one two clock (join_one one (told_by f.event locks ended) two second) joins.raised

    from_event : IsRaised (told_by (step_at run j).event locks ended) clock
    from_event =
        subst (λ (g : Footprint). IsRaised (told_by g.event locks ended) clock) at
        (raised_on (told_by f.event locks ended) two clock (join_other one (told_by f.event locks ended) two second) joins.raised)

    known : (k : ℕ) → (s : ℕ) × Reaches run k s × Edge run s j → IsUnder run clock k
    known k e =
        received run j e.0 k one locks ended clock t l d from_thread from_event
        (λ byte r.
        let s = source_loaded run e.0 j rows byte rs r in
        let load : Makes is_atomic_load f byte = subst (λ (g : Footprint). Makes is_atomic_load g byte) (sym at) r.load in
        under_raised run (row_at rows s.0).clock clock k (joins.all s.0 (load.0, load.1, (byte, load.2, s.1)))
        ((latest_clock run j rows byte s.0 rs s.1).all k (subst (λ (m : ℕ). Reaches run k m) (sym s.2) e.1)))
        e.1 e.2

-- steps of a run are far from the end of the numbers
pub rows_short : (run : List Footprint) (j : ℕ) (rows : List Row) → AreRows run j rows → j < 2 ^ 64 → AreShort rows
rows_short run j rows rs small = λ x lt. let low = (rs.each x lt).within in omega (arith, low, small)

-- ---- lists of races

pub races_none : (run : List Footprint) (pairs : List Pair) → pairs ≡ [] → AreRacesBelow run 0 pairs
races_none run pairs none =
    record {
      within = λ k d lt. let long = ap length none in absurd (omega (arith, lt, long));
      listed = λ k d lt. let long = ap length none in absurd (omega (arith, lt, long));
      rising = λ i k d lt high. let long = ap length none in absurd (omega (arith, high, long));
      complete = λ i k lt r. absurd (omega (arith, lt));
    }

-- the next step has no race
pub races_same : (run : List Footprint) (n : ℕ) (pairs : List Pair) → AreRacesBelow run n pairs → HasNoRace run n → AreRacesBelow run (n + 1) pairs
races_same run n pairs h none =
    record {
      within = All-weaker (λ p. p.second < n) (λ p. p.second < n + 1) (λ p lt. omega arith) pairs h.within;
      listed = h.listed;
      rising = h.rising;
      complete = λ i j lt r. elim (dec_lt j n) [
        | yes below ↦ h.complete i j below r
        | no over ↦ let same : j ≡ n = omega arith in absurd (none i (subst (λ (k : ℕ). IsRace run i k) same r))
      ];
    }

-- the next step has one
pub races_more : (run : List Footprint) (n i : ℕ) (pairs : List Pair) → AreRacesBelow run n pairs → IsGreatestRace run i n → AreRacesBelow run (n + 1) (pairs ++ record { first = i; second = n } ∷ [])
races_more run n i pairs h g =
    record {
      within = All-push (λ p. p.second < n + 1) pairs (record { first = i; second = n }) (All-weaker (λ p. p.second < n) (λ p. p.second < n + 1) (λ p lt. omega arith) pairs h.within) (omega arith);
      listed = All-push (λ p. IsGreatestRace run p.first p.second) pairs (record { first = i; second = n }) h.listed g;
      rising = all_pairs_push (λ p q. p.second < q.second) pairs (record { first = i; second = n }) h.rising (λ k d lt. h.within k d lt);
      complete = λ i' j lt r. elim (dec_lt j n) [
        | yes below ↦ Any-append_left (λ p. p.second ≡ j) pairs (record { first = i; second = n } ∷ []) (h.complete i' j below r)
        | no over ↦ let same : n ≡ j = omega arith in Any-push (λ p. p.second ≡ j) pairs (record { first = i; second = n }) same
      ];
    }
