-- The partners by the rows are the races of the run.
use Rattle.mr_rust_order.proofs.Common.{◌≡◌, ◌≢◌, ℕ, ◌+◌, ◌<◌, ◌≤◌, max, List, length, take, get_or, slice_index, Option, Some, None, true, not, sym, ap, ◌∙◌, subst, arith, dec_lt, MatchOption, ◌&&◌, ◌==◌, nat_le, and_from, and_parts, leb-true, le-leb, ne_eqb, not-true, Access, conflicts, races, Footprint, step_at, thread_at, Row, IsClockBefore, HappensBefore, HasNoRace, IsGreatestRace, IsRace, IsPartnerBy, is_partner, AreRows, IsTop, Passes, row_at, in_thread, edge}
use Rattle.std.proofs.lemmas.Bool.{eqb-false, not_from_false}
use Rattle.mr_rust_order.specs.Partners.{HasNoPartner, IsGreatestPartner, IsPartner}
use Rattle.mr_rust_order.proofs.AccessLaws.{race_conflict, race_found, race_there, some_last, some_more, some_wider}
use Rattle.mr_rust_order.proofs.OrderLaws.{before_from, reach_up_to}
use Rattle.mr_rust_order.proofs.TopLaws.{top_max, top_none}

-- a partner's step has a race
pub partner_race : (run : List Footprint) (j : ℕ) (rows : List Row) (clock : List ℕ) (x : ℕ) → AreRows run j rows → IsClockBefore run clock j → IsPartner rows (step_at run j) clock x
    → IsRace run (row_at rows x).last j
partner_race run j rows clock x rs c p =
    let row = rs.each x p.2.within in
    let parts = and_parts (not ((row_at rows x).thread == thread_at run j) && races (row_at rows x).range p.0) (nat_le (slice_index clock (row_at rows x).thread) (row_at rows x).last) p.2.passed in
    let two = and_parts (not ((row_at rows x).thread == thread_at run j)) (races (row_at rows x).range p.0) parts.0 in
    let ne = eqb-false (row_at rows x).thread (thread_at run j) (not-true ((row_at rows x).thread == thread_at run j) two.0) in
    let le = leb-true (slice_index clock (row_at rows x).thread) (row_at rows x).last parts.1 in
    record {
      before = row.within;
      apart = λ e. ne (sym row.thread ∙ e);
      race = race_there (step_at run (row_at rows x).last).accesses (step_at run j).accesses (row_at rows x).range p.0 row.made p.1 two.1;
      unordered = λ h.
          let under = c.all (row_at rows x).last h in
          let of = ap (slice_index clock) row.thread in
          omega (arith, under, of, le);
    }

-- a step that has a race lies before the step of a partner, or is it
pub race_partner : (run : List Footprint) (i j : ℕ) (rows : List Row) (clock : List ℕ) → AreRows run j rows → IsClockBefore run clock j → IsRace run i j
    → (x : ℕ) × IsPartner rows (step_at run j) clock x × (i ≤ (row_at rows x).last)
race_partner run i j rows clock rs c r =
    let f = race_found (step_at run i).accesses (step_at run j).accesses r.race in
    let a = f.0 in
    let b = f.2.0 in
    let h = rs.held i a r.before f.1 in
    let x = h.row in
    let row = rs.each x h.found.within in
    let unordered : HappensBefore run (row_at rows x).last j → ⊥ = λ q. r.unordered (before_from run i (row_at rows x).last j h.reached q) in
    let apart : (row_at rows x).thread ≢ thread_at run j = λ e. unordered (edge (in_thread row.within (row.thread ∙ e))) in
    let unknown : slice_index clock (row_at rows x).thread ≤ (row_at rows x).last =
    elim (dec_lt (row_at rows x).last (slice_index clock (row_at rows x).thread)) [
      | yes lt ↦
          let same = ap (slice_index clock) row.thread in
          absurd (unordered (c.only (row_at rows x).last (omega (arith, lt, same))))
      | no over ↦ omega (arith, over)
    ] in (
      x,
      (
        b,
        f.2.1,
        record {
          within = h.found.within;
          passed =
              and_from (not ((row_at rows x).thread == thread_at run j) && races (row_at rows x).range b) (nat_le (slice_index clock (row_at rows x).thread) (row_at rows x).last)
              (and_from (not ((row_at rows x).thread == thread_at run j)) (races (row_at rows x).range b)
              (not_from_false ((row_at rows x).thread == thread_at run j) (ne_eqb (row_at rows x).thread (thread_at run j) apart))
              (ap (λ (q : Access). races q b) h.found.of_range ∙ f.2.2))
              (le-leb (slice_index clock (row_at rows x).thread) (row_at rows x).last unknown);
        },
      ),
      reach_up_to run i (row_at rows x).last h.reached,
    )

greatest_race : (run : List Footprint) (i j : ℕ) (rows : List Row) (clock : List ℕ) → AreRows run j rows → IsClockBefore run clock j → IsGreatestPartner rows (step_at run j) clock i → IsGreatestRace run i j
greatest_race run i j rows clock rs c g =
    record {
      race = subst (λ (k : ℕ). IsRace run k j) g.step.2 (partner_race run j rows clock g.step.0 rs c g.step.1);
      greatest = λ k low r.
          let p = race_partner run k j rows clock rs c r in
          let high = g.greatest p.0 p.1 in
          let le = p.2 in
          omega (arith, low, high, le);
    }

-- the greatest partner is the greatest step that has a race
pub partner_is_race : (run : List Footprint) (j : ℕ) (rows : List Row) (clock : List ℕ) (f : Footprint) (o : Option ℕ) → AreRows run j rows → IsClockBefore run clock j → f ≡ step_at run j
    → MatchOption o (HasNoPartner rows f clock) (λ i. IsGreatestPartner rows f clock i) → MatchOption o (HasNoRace run j) (λ i. IsGreatestRace run i j)
partner_is_race run j rows clock f None rs c at none = λ i r.
    let p = race_partner run i j rows clock rs c r in
    none p.0 (subst (λ (g : Footprint). IsPartner rows g clock p.0) (sym at) p.1)
partner_is_race run j rows clock f (Some i) rs c at g = greatest_race run i j rows clock rs c (subst (λ (h : Footprint). IsGreatestPartner rows h clock i) at g)

-- ---- by one access after another

pub partners_none : (rows : List Row) (accesses : List Access) (thread : ℕ) (clock : List ℕ) → IsTop rows (IsPartnerBy rows (take 0 accesses) thread clock) 0
partners_none rows accesses thread clock = top_none rows (IsPartnerBy rows (take 0 accesses) thread clock) (λ x p. let lt = p.1.1 in omega (arith, lt))

pub partners_more : (rows : List Row) (accesses : List Access) (thread : ℕ) (clock : List ℕ) (y : ℕ) (d : Access) (best here new : ℕ) → y < length accesses → new ≡ max best here
    → IsTop rows (IsPartnerBy rows (take y accesses) thread clock) best → IsTop rows (Passes rows (is_partner thread (get_or accesses y d) clock)) here
    → IsTop rows (IsPartnerBy rows (take (y + 1) accesses) thread clock) new
partners_more rows accesses thread clock y d best here new lt is s t =
    top_max rows (IsPartnerBy rows (take y accesses) thread clock) (Passes rows (is_partner thread (get_or accesses y d) clock)) (IsPartnerBy rows (take (y + 1) accesses) thread clock) best here new is s t
    (λ x p. some_wider (λ (a : Access). Passes rows (is_partner thread a clock) x) accesses y d lt p) (λ x p. some_last (λ (a : Access). Passes rows (is_partner thread a clock) x) accesses y d lt p)
    (λ x p. some_more (λ (a : Access). Passes rows (is_partner thread a clock) x) accesses y d lt p)

-- the rows that race with an access conflict with it
pub passes_conflict : (rows : List Row) (thread : ℕ) (access : Access) (clock : List ℕ) (x : ℕ) → Passes rows (is_partner thread access clock) x → conflicts (row_at rows x).range access ≡ true
passes_conflict rows thread access clock x p =
    let parts = and_parts (not ((row_at rows x).thread == thread) && races (row_at rows x).range access) (nat_le (slice_index clock (row_at rows x).thread) (row_at rows x).last) p.passed in
    race_conflict (row_at rows x).range access (and_parts (not ((row_at rows x).thread == thread)) (races (row_at rows x).range access) parts.0).1

-- the greatest of them, if there is one
pub top_is_none : (rows : List Row) (f : Footprint) (clock : List ℕ) → IsTop rows (IsPartnerBy rows f.accesses f.thread clock) 0 → HasNoPartner rows f clock
top_is_none rows f clock t = λ x p. let low = t.above x p in omega (arith, low)

pub top_is_greatest : (rows : List Row) (f : Footprint) (clock : List ℕ) (n i : ℕ) → n ≡ i + 1 → IsTop rows (IsPartnerBy rows f.accesses f.thread clock) n → IsGreatestPartner rows f clock i
top_is_greatest rows f clock n i e t = record { step = t.reached i e; greatest = λ x p. let low = t.above x p in omega (arith, low, e) }
