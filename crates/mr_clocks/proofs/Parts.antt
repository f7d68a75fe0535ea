-- The clock of a step, made from those of the steps that an edge leads from.
use Rattle.mr_clocks.proofs.Common.{◌≡◌, ◌≢◌, ℕ, suc, ◌<◌, ◌≤◌, ◌-◌, Bool, false, List, [], slice_index, sym, ◌∙◌, ap, subst, inl, inr, ◌⊎◌, arith, ℕ_discrete, dec_lt, Option, Some, None, MatchOption, Footprint, thread_at, Edge, HappensBefore, in_thread, edge, chain, Edge-before, HappensBefore-before, IsUnder, IsClockOf, IsMade, IsPart, AreUnder, AreClocks, AreLatest, Follows, clock_at}
use Rattle.mr_event.proofs.Ordered.{last_edge}

-- the first step of its thread knows nothing
pub part_of_none : (run : List Footprint) (clock : List ℕ) (j : ℕ) → ((t : ℕ) → slice_index clock t ≡ 0) → ((p : ℕ) → p < j → thread_at run p ≢ thread_at run j) → IsPart run clock j
part_of_none run clock j none alone =
    record {
      bounded = λ t. omega (arith, none t);
      sound = λ m under. absurd (omega (arith, none (thread_at run m), under));
      closed = λ m q under h apart. absurd (omega (arith, none (thread_at run m), under));
      own = λ q p lt same h apart. absurd (alone p lt same);
    }

-- a later one begins with the clock of the step before it in its thread
pub part_of_previous : (run : List Footprint) (clock : List ℕ) (p j : ℕ) → p < j → thread_at run p ≡ thread_at run j → ((m : ℕ) → m < j → thread_at run m ≡ thread_at run j → m ≤ p) → IsClockOf run clock p → IsPart run clock j
part_of_previous run clock p j lt same last c =
    record {
      bounded = λ t. omega (arith, c.bounded t);
      sound = λ m under. chain (c.sound m under) (edge (in_thread lt same));
      closed = λ m q under h apart. c.exact q (λ e. apart (e ∙ same)) (chain h (c.sound m under));
      own = λ q m low own h apart. c.exact q (λ e. apart (e ∙ same)) (up_to m q low own h);
    }
  where
    up_to : (m q : ℕ) → m < j → thread_at run m ≡ thread_at run j → HappensBefore run q m → HappensBefore run q p
    up_to m q low own h =
        elim (ℕ_discrete m p) [
          | yes e ↦ subst (λ n. HappensBefore run q n) e h
          | no ne ↦ let le = last m low own in chain h (edge (in_thread (omega (arith, le, ne)) (own ∙ sym same)))
        ]

-- what lies under the clock that followed a step lay under one of the two, or is of the step's thread and not behind it
pub under_cases : (run : List Footprint) (old other new : List ℕ) (i m : ℕ) → Follows old other (thread_at run i) i new → IsUnder run new m → IsUnder run old m ⊎ IsUnder run other m ⊎ ((thread_at run m ≡ thread_at run i) × (m ≤ i))
under_cases run old other new i m f under =
    elim (dec_lt m (slice_index old (thread_at run m))) [
      | yes lt ↦ inl lt
      | no over ↦ elim (dec_lt m (slice_index other (thread_at run m))) [
        | yes lt ↦ inr (inl lt)
        | no beyond ↦ elim (ℕ_discrete (thread_at run m) (thread_at run i)) [
          | yes same ↦
              let is = ap (slice_index new) same ∙ f.own in
              let one = ap (slice_index old) same in
              let two = ap (slice_index other) same in
              inr (inr (same, omega (arith, is, one, two, over, beyond, under)))
          | no apart ↦ let is = f.each (thread_at run m) apart in absurd (omega (arith, is, over, beyond, under))
        ]
      ]
    ]

-- and all of those lie under it
pub under_old : (run : List Footprint) (old other new : List ℕ) (i m : ℕ) → Follows old other (thread_at run i) i new → IsUnder run old m → IsUnder run new m
under_old run old other new i m f under =
    elim (ℕ_discrete (thread_at run m) (thread_at run i)) [
      | yes same ↦
          let is = ap (slice_index new) same ∙ f.own in
          let one = ap (slice_index old) same in
          omega (arith, is, one, under)
      | no apart ↦ let is = f.each (thread_at run m) apart in omega (arith, is, under)
    ]

pub under_other : (run : List Footprint) (old other new : List ℕ) (i m : ℕ) → Follows old other (thread_at run i) i new → IsUnder run other m → IsUnder run new m
under_other run old other new i m f under =
    elim (ℕ_discrete (thread_at run m) (thread_at run i)) [
      | yes same ↦
          let is = ap (slice_index new) same ∙ f.own in
          let two = ap (slice_index other) same in
          omega (arith, is, two, under)
      | no apart ↦ let is = f.each (thread_at run m) apart in omega (arith, is, under)
    ]

pub under_own : (run : List Footprint) (old other new : List ℕ) (i m : ℕ) → Follows old other (thread_at run i) i new → thread_at run m ≡ thread_at run i → m ≤ i → IsUnder run new m
under_own run old other new i m f same le =
    let is = ap (slice_index new) same ∙ f.own in
    omega (arith, is, le)

-- an edge leads from a step, whose clock is known
pub part_follows : (run : List Footprint) (old other new : List ℕ) (i j : ℕ) → IsClockOf run other i → IsPart run old j → Edge run i j → Follows old other (thread_at run i) i new → IsPart run new j
part_follows run old other new i j before c e f =
    record {
      bounded = bound;
      sound = λ m under. elim (under_cases run old other new i m f under) [
        | inl h ↦ c.sound m h
        | inr (inl h) ↦ chain (before.sound m h) (edge e)
        | inr (inr h) ↦ up_to m h.0 h.1
      ];
      closed = λ m q under h apart. elim (under_cases run old other new i m f under) [
        | inl u ↦ under_old run old other new i q f (c.closed m q u h apart)
        | inr (inl u) ↦ over q (chain h (before.sound m u))
        | inr (inr u) ↦ elim (ℕ_discrete m i) [
          | yes same ↦ over q (subst (λ n. HappensBefore run q n) same h)
          | no differs ↦ over q (chain h (edge (in_thread (omega (arith, u.1, differs)) u.0)))
        ]
      ];
      own = λ q p lt same h apart. under_old run old other new i q f (c.own q p lt same h apart);
    }
  where
    bound : (t : ℕ) → slice_index new t ≤ j
    bound t = elim (ℕ_discrete t (thread_at run i)) [
      | yes same ↦
          let is = ap (slice_index new) same ∙ f.own in
          omega (arith, is, c.bounded (thread_at run i), before.bounded (thread_at run i), Edge-before e)
      | no apart ↦ omega (arith, f.each t apart, c.bounded t, before.bounded t, Edge-before e)
    ]

    over : (q : ℕ) → HappensBefore run q i → IsUnder run new q
    over q h = elim (ℕ_discrete (thread_at run q) (thread_at run i)) [
      | yes same ↦ let lt = HappensBefore-before h in under_own run old other new i q f same (omega (arith, lt))
      | no apart ↦ under_other run old other new i q f (before.exact q apart h)
    ]

    up_to : (m : ℕ) → thread_at run m ≡ thread_at run i → m ≤ i → HappensBefore run m j
    up_to m same le = elim (ℕ_discrete m i) [
      | yes is ↦ subst (λ n. HappensBefore run n j) (sym is) (edge e)
      | no differs ↦ chain (edge (in_thread (omega (arith, le, differs)) same)) (edge e)
    ]

-- what lay under a clock lies under the one that followed a step
pub all_stay : (run : List Footprint) (old other new : List ℕ) (i k j : ℕ) → Follows old other (thread_at run i) i new → AreUnder run old k j → AreUnder run new k j
all_stay run old other new i k j f all = λ m low e apart. under_old run old other new i m f (all m low e apart)

-- the next step down lies under the clock, or no edge leads from it
pub all_more : (run : List Footprint) (clock : List ℕ) (i j : ℕ) → AreUnder run clock (suc i) j → (Edge run i j → thread_at run i ≢ thread_at run j → IsUnder run clock i) → AreUnder run clock i j
all_more run clock i j all here = λ m low e apart.
    elim (ℕ_discrete m i) [
      | yes same ↦ subst (λ n. IsUnder run clock n) (sym same) (here (subst (λ n. Edge run n j) same e) (λ same_thread. apart (ap (thread_at run) same ∙ same_thread)))
      | no differs ↦ all m (omega (arith, low, differs)) e apart
    ]

-- no edge leads from another thread but from what lies under the clock: it is that of step j
pub part_ends : (run : List Footprint) (clock : List ℕ) (j : ℕ) → IsPart run clock j → AreUnder run clock 0 j → IsClockOf run clock j
part_ends run clock j c all =
    record {
      bounded = c.bounded;
      sound = c.sound;
      exact = λ i apart h. elim (last_edge h) [
        | inl e ↦ all i (omega arith) e apart
        | inr t ↦ elim (ℕ_discrete (thread_at run t.0) (thread_at run j)) [
          | yes same ↦ c.own i t.0 (Edge-before t.2) same t.1 apart
          | no differs ↦ c.closed t.0 i (all t.0 (omega arith) t.2 differs) t.1 apart
        ]
      ];
    }

-- the latest step of a thread, of which the table has a number above 0
pub latest_step : (run : List Footprint) (n : ℕ) (latest : List ℕ) (t next : ℕ) → AreLatest run n latest → next ≡ slice_index latest t → (next ≡ 0 → ⊥) → (next - 1 < n) × (thread_at run (next - 1) ≡ t)
latest_step run n latest t next a e some = a.step t (next - 1) (sym e ∙ omega (arith, some))

-- the clock of the latest step of j's thread is what that of j begins with
pub part_of_latest : (run : List Footprint) (j : ℕ) (clocks : List (List ℕ)) (numbers latest clock : List ℕ) (next : ℕ) → AreClocks run j clocks numbers → AreLatest run j latest → next ≡ slice_index latest (thread_at run j) → (next ≡ 0 → ⊥) → clock ≡ clock_at clocks numbers (next - 1) → IsPart run clock j
part_of_latest run j clocks numbers latest clock next c a e some is =
    let step = latest_step run j latest (thread_at run j) next a e some in
    part_of_previous run clock (next - 1) j step.0 step.1
    (λ m lt same. let number = ap (slice_index latest) same in omega (arith, a.covers m lt, number, e))
    (subst (λ l. IsClockOf run l (next - 1)) (sym is) (c.each (next - 1) step.0))

-- no step of j's thread is before it where the table has 0
pub part_of_first : (run : List Footprint) (j : ℕ) (latest clock : List ℕ) → AreLatest run j latest → slice_index latest (thread_at run j) ≡ 0 → clock ≡ [] → IsPart run clock j
part_of_first run j latest clock a none is =
    part_of_none run clock j (λ t. ap (λ (l : List ℕ). slice_index l t) is)
    (λ p lt same. let number = ap (slice_index latest) same in omega (arith, a.covers p lt, number, none))

-- what is made for step j where its clock is told unless it didn't change
pub made_of : (run : List Footprint) (clocks : List (List ℕ)) (numbers clock : List ℕ) (next j : ℕ) (changed : Bool) (made : Option (List ℕ)) → IsClockOf run clock j → (changed ≡ false → 0 < next → clock ≡ clock_at clocks numbers (next - 1)) → MatchOption made ((changed ≡ false) × (0 < next)) (λ c. c ≡ clock) → IsMade run clocks numbers next made j
made_of run clocks numbers clock next j changed None here same none = record { some = none.1; clock = subst (λ l. IsClockOf run l j) (same none.0 none.1) here }
made_of run clocks numbers clock next j changed (Some c) here same is = subst (λ l. IsClockOf run l j) (sym is) here

-- where no clock is made there is a step before
pub made_some : (run : List Footprint) (clocks : List (List ℕ)) (numbers : List ℕ) (next j : ℕ) (made : Option (List ℕ)) → IsMade run clocks numbers next made j → MatchOption made (0 < next) (λ _. Unit {0})
made_some run clocks numbers next j None m = m.some
made_some run clocks numbers next j (Some c) m = tt

-- of two steps of one thread the earlier one happens before the later one
pub before_in_thread : (run : List Footprint) (i k : ℕ) → i < k → thread_at run i ≡ thread_at run k → HappensBefore run i k
before_in_thread run i k lt same = edge (in_thread lt same)

-- a step that happens before k and doesn't lie under its clock is an earlier one of its thread
pub before_cases : (run : List Footprint) (clock : List ℕ) (i k : ℕ) → IsClockOf run clock k → (IsUnder run clock i → ⊥) → HappensBefore run i k → (i < k) × (thread_at run i ≡ thread_at run k)
before_cases run clock i k c over h = (
  HappensBefore-before h,
  elim (ℕ_discrete (thread_at run i) (thread_at run k)) [
    | yes same ↦ same
    | no apart ↦ absurd (over (c.exact i apart h))
  ],
)
