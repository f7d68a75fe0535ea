-- The rows that a step asks tell its edges and its greatest partner.
use Rattle.mr_clocks.proofs.Common.{◌≡◌, ◌≢◌, ℕ, ◌+◌, ◌-◌, ◌<◌, ◌≤◌, inl, inr, List, true, false, length, take, slice_index, refl, sym, ◌∙◌, ap, subst, arith, ℕ_discrete, list_any, and_parts, both_ways, cases_Bool, false≢true, get_or-take, conflicts, races, some_race, Footprint, depends, no_step, step_at, thread_at, Edge, HappensBefore, HasNoPartner, RacePair, in_thread, woken, edge, chain, Edge-before, any_weaker, Key, Lock, Creation, Spawning, Starts, Joins, Made, Touched, Range, Wakes, Row, Link, AreLatest, AreUnder, IsClockOf, IsPart, IsUnder, asks, has_row, IsNext, AreSyncsUnder, AreAllAsked, AreRows, IsPlaceBeyond, IsPlaceKnown, IsPlaceSeen, row_at, step_of, IsOfRow}
use Rattle.mr_clocks.specs.Keys.{Counts, key_races, is_shared}
use Rattle.mr_clocks.specs.Rows.{ArePlacesKnown, IsOwn}
use Rattle.mr_event.specs.Order.Edge.{dependent}
use Rattle.mr_clocks.specs.declared.keys.Key.TheVariants.{Storing}
use Rattle.mr_clocks.proofs.Chains.{in_here, in_low, in_most}
use Rattle.mr_clocks.proofs.Edges.{edge_back, sync_of}
use Rattle.mr_clocks.proofs.KeyLaws.{depends_row, race_shares, shared_bound}
use Rattle.mr_clocks.proofs.KeyLists.{race_from_range}
use Rattle.mr_clocks.proofs.Parts.{part_ends}

-- where a step is a partner of j, each later step of its thread that races with j is one
pub partner_up : (run : List Footprint) (m e j : ℕ) → thread_at run e ≡ thread_at run m → m ≤ e → e < j → some_race (step_at run e).accesses (step_at run j).accesses ≡ true → RacePair run m j → RacePair run e j
partner_up run m e j thread le lt race r =
    let unordered : HappensBefore run e j → ⊥ = λ h. r.unordered (elim (ℕ_discrete m e) [
      | yes equal ↦ subst (λ (x : ℕ). HappensBefore run x j) (sym equal) h
      | no differs ↦ chain (edge (in_thread (omega (arith, le, differs)) (sym thread))) h
    ]) in
    record {
      before = lt;
      races = record { apart = λ h. r.races.apart (sym thread ∙ h); race = race; unsynced = λ s. unordered (edge (woken s)) };
      unordered = unordered;
    }

-- ---- the order of a row

-- a step of a row happens before the later ones
row_order : (run : List Footprint) (n : ℕ) (row : Row) (i m : ℕ) → IsOfRow run n row i → IsOfRow run n row m → i < m → HappensBefore run i m
row_order run n row i m one two lt = elim (cases_Bool (is_shared row.key)) [
  | inr own ↦ edge (in_thread lt (one.thread own ∙ sym (two.thread own)))
  | inl shared ↦
      let bound = shared_bound row.key (step_at run i) (step_at run m) shared one.noted two.noted in
      edge (dependent lt bound.0 (λ r. both_ways _ bound.1 r.race))
]

-- what a clock of j knows of a row: with a step, if that is not of j's thread, the earlier ones of other threads
pub row_under : (run : List Footprint) (j : ℕ) (row : Row) (i m : ℕ) (clock : List ℕ) → IsPart run clock j → IsOfRow run j row i → IsOfRow run j row m → i ≤ m → (thread_at run m ≢ thread_at run j → IsUnder run clock m) → thread_at run i ≢ thread_at run j → IsUnder run clock i
row_under run j row i m clock part one two le known apart = elim (ℕ_discrete i m) [
  | yes same ↦ subst (λ (q : ℕ). IsUnder run clock q) (sym same) (known (λ own. apart (ap (thread_at run) same ∙ own)))
  | no ne ↦
      let before = row_order run j row i m one two (omega (arith, le, ne)) in
      elim (ℕ_discrete (thread_at run m) (thread_at run j)) [
        | yes own ↦ part.own i m two.within own before apart
        | no other ↦ part.closed m i (known other) before apart
      ]
]

-- ---- all rows that a step asks

-- a key of a step that doesn't race with g names no range that races with g
no_race_key : (key : Key) (f g : Footprint) → has_row f key ≡ true → some_race f.accesses g.accesses ≡ false → key_races key g ≡ false
no_race_key (Range r) f g h none =
    elim (cases_Bool (list_any (races r) g.accesses)) [
      | inl e ↦ absurd (both_ways _ none (race_from_range f g r h e))
      | inr e ↦ e
    ]
no_race_key (Lock n) f g h none = refl
no_race_key (Storing n) f g h none = refl
no_race_key Creation f g h none = refl
no_race_key Spawning f g h none = refl
no_race_key (Starts t) f g h none = refl
no_race_key (Joins t) f g h none = refl
no_race_key (Made a) f g h none = refl
no_race_key (Touched a) f g h none = refl
no_race_key (Wakes t) f g h none = refl

-- a step that is noted in a row of a key that races with g races with g
race_of_key : (key : Key) (f g : Footprint) → has_row f key ≡ true → key_races key g ≡ true → some_race f.accesses g.accesses ≡ true
race_of_key (Range r) f g h e = race_from_range f g r h e
race_of_key (Lock n) f g h e = absurd (false≢true e)
race_of_key (Storing n) f g h e = absurd (false≢true e)
race_of_key Creation f g h e = absurd (false≢true e)
race_of_key Spawning f g h e = absurd (false≢true e)
race_of_key (Starts t) f g h e = absurd (false≢true e)
race_of_key (Joins t) f g h e = absurd (false≢true e)
race_of_key (Made a) f g h e = absurd (false≢true e)
race_of_key (Touched a) f g h e = absurd (false≢true e)
race_of_key (Wakes t) f g h e = absurd (false≢true e)

-- the latest step of a row of another thread, whose key races with j, is a partner of j, unless the clock knows it
pub latest_rival : (run : List Footprint) (rows : List Row) (links : List Link) (x j m : ℕ) (clock : List ℕ) → AreRows run j rows links → IsClockOf run clock j → x < length rows → (row_at rows x).last ≡ m + 1 → (row_at rows x).thread ≢ thread_at run j → key_races (row_at rows x).key (step_at run j) ≡ true → (IsUnder run clock (step_of links m) → ⊥) → RacePair run (step_of links m) j
latest_rival run rows links x j m clock a of inside at apart races over =
    let row = row_at rows x in
    let here = (a.each x inside).steps m (in_here links m row.last at) in
    let newest = (a.each x inside).newest m at in
    let differs : thread_at run (step_of links m) ≢ thread_at run j = λ same. apart (sym newest ∙ same) in
    let unordered : HappensBefore run (step_of links m) j → ⊥ = λ h. over (of.exact (step_of links m) differs h) in
    record {
      before = here.within;
      races = record {
        apart = differs;
        race = race_of_key row.key (step_at run (step_of links m)) (step_at run j) here.noted races;
        unsynced = λ s. unordered (edge (woken s));
      };
      unordered = unordered;
    }

-- of two steps of which the later one depends on the earlier one, and doesn't race with it: they have a key in common
-- that names no range that races, in whose rows the earlier one is noted
shared_key : (f g : Footprint) → depends f g ≡ true → some_race f.accesses g.accesses ≡ false → (key : Key) × (has_row f key ≡ true) × (asks g key ≡ true) × (key_races key g ≡ false) × Counts key f g
shared_key f g d none = let s = depends_row f g d in (s.0, s.1, s.2, no_race_key s.0 f g s.1 none, inr none)

-- each step with an edge to j lies under the clock, where that holds of those that woke its thread, and of the rows that
-- j asks
pub seen_rows : (run : List Footprint) (rows : List Row) (links : List Link) (found clock : List ℕ) (j next : ℕ) → AreRows run j rows links → AreAllAsked (step_at run j) rows found → IsNext run j next → AreSyncsUnder run clock j → ((y : ℕ) → y < length found → IsPlaceSeen run rows links (slice_index found y) clock j) → AreUnder run clock 0 j
seen_rows run rows links found clock j next a asked n syncs seen = λ m low e apart. elim (edge_back run m j next n apart e) [
  | inl w ↦ syncs m (sync_of run m j next n (Edge-before e) w.0 w.1) apart
  | inr d ↦
      let t = shared_key (step_at run m) (step_at run j) d.0 d.1 in
      let h = a.held m t.0 (Edge-before e) t.1 in
      let it_asks = ap (asks (step_at run j)) h.of_key ∙ t.2 in
      let k = h.kept in
      let of = (a.each h.row h.within).steps k.link k.inside in
      let is = ap (thread_at run) (sym k.is) in
      let other : IsOwn (row_at rows h.row) (thread_at run j) → ⊥ = λ own. apart (is ∙ of.thread own.0 ∙ own.1) in
      let f = asked h.row h.within other it_asks in
      let here = subst (λ (x : ℕ). IsPlaceSeen run rows links x clock j) f.2 (seen f.0 f.1) in
      let counts : Counts (row_at rows h.row).key (step_at run m) (step_at run j) =
      subst (λ (q : Key). Counts q (step_at run m) (step_at run j)) (sym h.of_key) t.4 in
      let under = here h.within it_asks (ap (λ (q : Key). key_races q (step_at run j)) h.of_key ∙ t.3) k.link k.inside (λ same. apart (is ∙ same))
      (subst (λ (q : ℕ). Edge run q j) (sym k.is) e)
      (subst (λ (q : ℕ). Counts (row_at rows h.row).key (step_at run q) (step_at run j)) (sym k.is) counts) in
      subst (λ (q : ℕ). IsUnder run clock q) k.is under
]

-- each step of a row is known to a clock that knows the latest one
pub known_place : (run : List Footprint) (rows : List Row) (links : List Link) (x j : ℕ) (clock : List ℕ) → AreRows run j rows links → IsPart run clock j → IsPlaceKnown run rows links x clock j → IsPlaceSeen run rows links x clock j
known_place run rows links x j clock a part known = λ inside it_asks none k here apart e counts.
    let each = a.each x inside in
    let row = row_at rows x in
    let low = in_low links a.chained here each.last in
    let top : ℕ = row.last - 1 in
    let at : row.last ≡ top + 1 = omega (arith, low) in
    let most = in_most links a.chained top k row.last at each.last here in
    row_under run j row (step_of links k) (step_of links top) clock part (each.steps k here) (each.steps top (in_here links top row.last at)) most (known top inside at) apart

-- no edge leads to j but from what such a clock knows: it is j's
pub known_clock : (run : List Footprint) (rows : List Row) (links : List Link) (found clock : List ℕ) (j next : ℕ) → AreRows run j rows links → AreAllAsked (step_at run j) rows found → IsNext run j next → IsPart run clock j → AreSyncsUnder run clock j → ArePlacesKnown run rows links found clock j → IsClockOf run clock j
known_clock run rows links found clock j next a asked n part syncs known =
    part_ends run clock j part (seen_rows run rows links found clock j next a asked n syncs (λ y lt. known_place run rows links (slice_index found y) j clock a part (known y lt)))

-- the latest step that a clock of j knows is no partner of j
pub known_beyond : (run : List Footprint) (rows : List Row) (links : List Link) (x j best : ℕ) (clock : List ℕ) → IsClockOf run clock j → IsPlaceKnown run rows links x clock j → IsPlaceBeyond run rows links x j best
known_beyond run rows links x j best clock of known = λ k inside races at pair.
    absurd (pair.unordered (of.sound (step_of links k) (known k inside at pair.races.apart)))

-- what a clock knows, one that is not below it knows too
pub known_stays : (run : List Footprint) (rows : List Row) (links : List Link) (x j : ℕ) (old new : List ℕ) → ((m : ℕ) → IsUnder run old m → IsUnder run new m) → IsPlaceKnown run rows links x old j → IsPlaceKnown run rows links x new j
known_stays run rows links x j old new kept known = λ k inside at apart. kept (step_of links k) (known k inside at apart)

-- a number beyond the latest steps of the rows that j asks, where these are partners, is beyond all partners
pub greatest_rows : (run : List Footprint) (rows : List Row) (links : List Link) (found : List ℕ) (j best : ℕ) → AreRows run j rows links → AreAllAsked (step_at run j) rows found → ((y : ℕ) → y < length found → IsPlaceBeyond run rows links (slice_index found y) j best) → (m : ℕ) → RacePair run m j → m < best
greatest_rows run rows links found j best a asked beyond m r =
    let t = race_shares (step_at run m) (step_at run j) r.races.race in
    let h = a.held m (Range t.0) r.before t.1 in
    let asks_it = any_weaker (races t.0) (conflicts t.0) (λ x e. (and_parts _ _ e).1) (step_at run j).accesses t.2 in
    let k = h.kept in
    let row = row_at rows h.row in
    let each = a.each h.row h.within in
    let alone : is_shared row.key ≡ false = ap is_shared h.of_key in
    let thread : thread_at run m ≡ row.thread = ap (thread_at run) (sym k.is) ∙ (each.steps k.link k.inside).thread alone in
    let f = asked h.row h.within (λ own. r.races.apart (thread ∙ own.1)) (ap (asks (step_at run j)) h.of_key ∙ asks_it) in
    let some : row.last ≡ (row.last - 1) + 1 = (let low = in_low links a.chained k.inside each.last in omega (arith, low)) in
    let top = row.last - 1 in
    let of = each.steps top (in_here links top row.last some) in
    let most = in_most links a.chained top k.link row.last some each.last k.inside in
    let kept = k.is in
    let le : m ≤ step_of links top = omega (arith, most, kept) in
    let race = race_from_range (step_at run (step_of links top)) (step_at run j) t.0 (ap (has_row (step_at run (step_of links top))) (sym h.of_key) ∙ of.noted) t.2 in
    let pair = partner_up run m (step_of links top) j (of.thread alone ∙ sym thread) le of.within race r in
    let less = subst (λ (x : ℕ). IsPlaceBeyond run rows links x j best) f.2 (beyond f.0 f.1) top h.within (ap (λ (q : Key). key_races q (step_at run j)) h.of_key ∙ t.2) some pair in
    omega (arith, le, less)

-- a step whose clock knows the latest step of each row that it asks has no partner
pub known_alone : (run : List Footprint) (rows : List Row) (links : List Link) (found clock : List ℕ) (j : ℕ) → AreRows run j rows links → AreAllAsked (step_at run j) rows found → IsClockOf run clock j → ArePlacesKnown run rows links found clock j → HasNoPartner run j
known_alone run rows links found clock j a asked of known = λ m r.
    let less = greatest_rows run rows links found j 0 a asked (λ y lt. known_beyond run rows links (slice_index found y) j 0 clock of (known y lt)) m r in
    omega (arith, less)

-- ---- the number of the step before j in its thread

-- the number of the table is one more than the place of the step before j
pub next_of : (run : List Footprint) (j next : ℕ) (latest : List ℕ) → AreLatest run j latest → next ≡ slice_index latest (thread_at run j) → IsNext run j next
next_of run j next latest a e =
    record {
      covers = λ k lt same. let number = ap (slice_index latest) same in omega (arith, a.covers k lt, number, e);
      step = λ p is. a.step (thread_at run j) p (sym e ∙ is);
    }

-- ---- a run without its last step

-- the rows of a run without its last steps
pub rows_longer : (run : List Footprint) (n : ℕ) (rows : List Row) (links : List Link) → AreRows (take n run) n rows links → AreRows run n rows links
rows_longer run n rows links a =
    record {
      chained = a.chained;
      each = λ x lt.
          let r = a.each x lt in
          record {
            last = r.last;
            steps = λ k inside.
                let s = r.steps k inside in
                record {
                  within = s.within;
                  thread = λ own. ap (λ (f : Footprint). f.thread) (sym (same (step_of links k) s.within)) ∙ s.thread own;
                  noted = ap (λ (f : Footprint). has_row f (row_at rows x).key) (sym (same (step_of links k) s.within)) ∙ s.noted;
                };
            newest = λ k at.
                let s = r.steps k (in_here links k (row_at rows x).last at) in
                ap (λ (f : Footprint). f.thread) (sym (same (step_of links k) s.within)) ∙ r.newest k at;
          };
      held = λ i key lt noted.
          let h = a.held i key lt (ap (λ (f : Footprint). has_row f key) (same i lt) ∙ noted) in
          record {
            row = h.row;
            within = h.within;
            of_key = h.of_key;
            kept = h.kept;
          };
    }
  where
    same : (i : ℕ) → i < n → step_at (take n run) i ≡ step_at run i
    same i lt = get_or-take n run i no_step lt
