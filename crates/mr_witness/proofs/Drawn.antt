-- The drawn order is a rearrangement: in each turn some thread is ready, and each step is placed behind all that happen
-- before it.
use Rattle.mr_witness.proofs.Common.{◌≡◌, ◌≢◌, ℕ, suc, zero, ◌+◌, ◌<◌, ◌≤◌, refl, sym, ◌∙◌, ap, subst, arith, List, [], ◌∷◌, length, Bool, true, false, inl, inr, ◌⊎◌, Option, Some, None, ℕ_discrete, ◌==◌, not, cond, filter, find, list_any, range_with_len, both_ways, cases_Bool, eq-eqb, ne_eqb, not-true, or_left, or_right, Footprint, IsRearrangement, places, thread_at, happens_before, happens_before_is, not_false, IsAmong, Ahead, Ahead-filter, Ahead-places, Each, Each-at, Each-filter, Each-places, Each-weaker, filter-kept, filter-left_out, above_threads, drawn_step, earliest_of, free_step, is_free, is_ready, placed_in, ready_threads, shuffled_order, step_or_first, without}
use Rattle.mr_event.proofs.Ordered.{HappensBefore-before}
use Rattle.mr_exchange.specs.Trace.{IsPlacing, IsReady}
use Rattle.mr_exchange.proofs.Placing.{placing_is_rearrangement, placing_within}
use Rattle.mr_sched.specs.declared.chooser.Chooser.{Chooser}
use Rattle.mr_sched.specs.Chooser.{behind_draw, drawn, drawn_from, first_chooser, position_in}

-- ---- lists of numbers

pub among_each : (P : ℕ → Type 0) (xs : List ℕ) (k : ℕ) → Each P xs → IsAmong k xs → P k
among_each P [] k h a = absurd a
among_each P (x ∷ xs) k h (inl e) = subst P (sym e) h.0
among_each P (x ∷ xs) k h (inr a) = among_each P xs k h.1 a

pub among_filter : (p : ℕ → Bool) (xs : List ℕ) (k : ℕ) → IsAmong k xs → p k ≡ true → IsAmong k (filter p xs)
among_filter p [] k a e = absurd a
among_filter p (x ∷ xs) k (inl s) e = subst (IsAmong k) (sym (filter-kept p x xs (subst (λ (n : ℕ). p n ≡ true) s e))) (inl s)
among_filter p (x ∷ xs) k (inr b) e =
    let rest = among_filter p xs k b e in
    elim (cases_Bool (p x)) [
      | inl yes_x ↦ subst (IsAmong k) (sym (filter-kept p x xs yes_x)) (inr rest)
      | inr no_x ↦ subst (IsAmong k) (sym (filter-left_out p x xs no_x)) rest
    ]

pub filter_among : (p : ℕ → Bool) (xs : List ℕ) (k : ℕ) → IsAmong k (filter p xs) → IsAmong k xs × (p k ≡ true)
filter_among p [] k a = absurd a
filter_among p (x ∷ xs) k a =
    elim (cases_Bool (p x)) [
      | inl yes_x ↦ kept (filter_among p xs k) yes_x (subst (IsAmong k) (filter-kept p x xs yes_x) a)
      | inr no_x ↦ let r = filter_among p xs k (subst (IsAmong k) (filter-left_out p x xs no_x) a) in (inr r.0, r.1)
    ]
  where
    kept : (IsAmong k (filter p xs) → IsAmong k xs × (p k ≡ true)) → p x ≡ true → (k ≡ x) ⊎ IsAmong k (filter p xs) → IsAmong k (x ∷ xs) × (p k ≡ true)
    kept rest yes_x (inl s) = (inl s, subst (λ (n : ℕ). p n ≡ true) (sym s) yes_x)
    kept rest yes_x (inr b) = let r = rest b in (inr r.0, r.1)

-- what is found stands in the list and passes
pub found_among : (p : ℕ → Bool) (xs : List ℕ) (k : ℕ) → find p xs ≡ Some k → IsAmong k xs × (p k ≡ true)
found_among p [] k e = absurd (cc)
found_among p (x ∷ xs) k e =
    elim (cases_Bool (p x)) [
      | inl yes_x ↦ let s : x ≡ k = here yes_x in (inl (sym s), subst (λ (n : ℕ). p n ≡ true) s yes_x)
      | inr no_x ↦ let r = found_among p xs k (later no_x) in (inr r.0, r.1)
    ]
  where
    here : p x ≡ true → x ≡ k
    here yes_x = let f : Some x ≡ Some k = sym (ap (λ b. cond b (Some x) (find p xs)) yes_x) ∙ e in cc

    later : p x ≡ false → find p xs ≡ Some k
    later no_x = sym (ap (λ b. cond b (Some x) (find p xs)) no_x) ∙ e

-- where a test passes of some element, some element passes it
pub any_among : (p : ℕ → Bool) (xs : List ℕ) (k : ℕ) → IsAmong k xs → p k ≡ true → list_any p xs ≡ true
any_among p [] k a e = absurd a
any_among p (x ∷ xs) k (inl s) e = or_left (p x) (list_any p xs) (subst (λ (n : ℕ). p n ≡ true) s e)
any_among p (x ∷ xs) k (inr b) e = or_right (p x) (list_any p xs) (any_among p xs k b e)

pub none_each : (p : ℕ → Bool) (xs : List ℕ) → Each (λ k. p k ≡ false) xs → list_any p xs ≡ false
none_each p [] h = refl
none_each p (x ∷ xs) h = rw h.0 (none_each p xs h.1)

pub among_places : (a n k : ℕ) → a ≤ k → k < a + n → IsAmong k (range_with_len a n)
among_places a zero k low high = absurd (omega arith)
among_places a (suc n) k low high =
    elim (ℕ_discrete k a) [
      | yes e ↦ inl e
      | no ne ↦ inr (among_places (a + 1) n k (omega arith) (omega arith))
    ]

some_length : (xs : List ℕ) (k : ℕ) → IsAmong k xs → 0 < length xs
some_length [] k a = absurd a
some_length (x ∷ xs) k a = omega arith

-- all of rising numbers but one
kept_all : (k : ℕ) (xs : List ℕ) → Each (λ x. x ≢ k) xs → length (without k xs) ≡ length xs
kept_all k [] h = refl
kept_all k (x ∷ xs) h =
    ap length (filter-kept (λ a. not (a == k)) x xs (not_false (x == k) (ne_eqb x k h.0))) ∙ ap suc (kept_all k xs h.1)

pub without_length : (k : ℕ) (xs : List ℕ) → Ahead (λ x y. x < y) xs → IsAmong k xs → suc (length (without k xs)) ≡ length xs
without_length k [] h a = absurd a
without_length k (x ∷ xs) h (inl e) =
    ap (λ (l : List ℕ). suc (length l)) (filter-left_out (λ a. not (a == k)) x xs (ap not (eq-eqb x k (sym e))))
    ∙ ap suc (kept_all k xs (Each-weaker (λ y. x < y) (λ y. y ≢ k) (λ y lt s. omega (arith, e)) xs h.0))
without_length k (x ∷ xs) h (inr b) =
    let lt : x < k = among_each (λ y. x < y) xs k h.0 b in
    ap (λ (l : List ℕ). suc (length l)) (filter-kept (λ a. not (a == k)) x xs (not_false (x == k) (ne_eqb x k (λ s. omega (arith, lt, s)))))
    ∙ ap suc (without_length k xs h.1 b)

-- ---- one turn

-- the number above all threads is above each
pub thread_below : (run : List Footprint) (k : ℕ) → k < length run → thread_at run k < above_threads run
thread_below [] k lt = absurd (omega arith)
thread_below (f ∷ fs) zero lt = omega arith
thread_below (f ∷ fs) (suc k) lt = let h = thread_below fs k (omega arith) in omega (arith, h)

module _ (run : List Footprint) where
  -- what is known of the steps that are left, and of those that are placed
  pub record AreLeft (left placed : List ℕ) : Type 0 where
    pub rising : Ahead (λ x y. x < y) left
    pub within : Each (λ k. k < length run) left
    pub all : (k : ℕ) → k < length run → IsAmong k left ⊎ IsAmong k placed
    pub apart : (k : ℕ) → IsAmong k left → IsAmong k placed → ⊥

  -- the first step that is left is free
  first_free : (x : ℕ) (xs : List ℕ) → Ahead (λ x y. x < y) (x ∷ xs) → is_free run (x ∷ xs) x ≡ true
  first_free x xs h =
      not_false _ (none_each (λ a. happens_before run a x) (x ∷ xs)
      (never x (omega arith), Each-weaker (λ y. x < y) (λ y. happens_before run y x ≡ false) (λ y lt. never y (omega arith)) xs h.0))
    where
      never : (a : ℕ) → x ≤ a → happens_before run a x ≡ false
      never a le =
          elim (cases_Bool (happens_before run a x)) [
            | inl e ↦ absurd (let lt = HappensBefore-before ((happens_before_is run a x).0 e) in omega arith)
            | inr e ↦ e
          ]

  -- so its thread is ready
  first_ready : (x : ℕ) (xs : List ℕ) → Ahead (λ x y. x < y) (x ∷ xs) → is_ready run (x ∷ xs) (thread_at run x) ≡ true
  first_ready x xs h =
      ap (λ b. free_step run (x ∷ xs) (cond b (Some x) (find (λ k. thread_at run k == thread_at run x) xs))) (eq-eqb (thread_at run x) (thread_at run x) refl)
      ∙ first_free x xs h

  -- a thread that is drawn is ready
  pub some_ready : (left placed : List ℕ) → AreLeft left placed → 0 < length left → 0 < length (ready_threads run left)
  some_ready [] placed h lt = absurd (omega arith)
  some_ready (x ∷ xs) placed h lt =
      let below = thread_below run x h.within.0 in
      some_length (ready_threads run (x ∷ xs)) (thread_at run x)
      (among_filter (is_ready run (x ∷ xs)) (places (above_threads run)) (thread_at run x) (among_places 0 (above_threads run) (thread_at run x) (omega arith) (omega (arith, below))) (first_ready x xs h.rising))

  pub drawn_ready : (c : Chooser) (left : List ℕ) → 0 < length (ready_threads run left) → is_ready run left (drawn_from c (ready_threads run left)) ≡ true
  drawn_ready c left lt =
      (Each-at (λ t. ((0 ≤ t) × (t < 0 + above_threads run)) × (is_ready run left t ≡ true)) (ready_threads run left)
      (Each-filter (λ t. (0 ≤ t) × (t < 0 + above_threads run)) (is_ready run left) (places (above_threads run)) (Each-places 0 (above_threads run)))
      (position_in (drawn c.number) (length (ready_threads run left))) 0 (omega (arith, lt))).1

  pub drawn_below : (c : Chooser) (left : List ℕ) → 0 < length (ready_threads run left) → drawn_from c (ready_threads run left) < above_threads run
  drawn_below c left lt =
      let h = Each-at (λ t. ((0 ≤ t) × (t < 0 + above_threads run)) × (is_ready run left t ≡ true)) (ready_threads run left)
      (Each-filter (λ t. (0 ≤ t) × (t < 0 + above_threads run)) (is_ready run left) (places (above_threads run)) (Each-places 0 (above_threads run)))
      (position_in (drawn c.number) (length (ready_threads run left))) 0 (omega (arith, lt)) in
      omega (arith, h.0.1)

  -- a ready thread has a step that is left, the earliest one, and this step is free
  pub ready_step : (left : List ℕ) (t : ℕ) → is_ready run left t ≡ true → (k : ℕ) × (earliest_of run left t ≡ Some k) × (is_free run left k ≡ true)
  ready_step left t e = by (earliest_of run left t) refl e
    where
      by : (o : Option ℕ) → earliest_of run left t ≡ o → free_step run left o ≡ true → (k : ℕ) × (earliest_of run left t ≡ Some k) × (is_free run left k ≡ true)
      by None is f = absurd (cc)
      by (Some k) is f = (k, is, f)

  -- THE STEP THAT IS PLACED NEXT is one that is left, and is free
  pub next_step : (c : Chooser) (left placed : List ℕ) → AreLeft left placed → 0 < length left → IsAmong (drawn_step run c left) left × (is_free run left (drawn_step run c left) ≡ true)
  next_step c left placed h lt =
      let t = drawn_from c (ready_threads run left) in
      let r = ready_step left t (drawn_ready c left (some_ready left placed h lt)) in
      let is : drawn_step run c left ≡ r.0 = ap step_or_first r.1 in
      subst (λ k. IsAmong k left × (is_free run left k ≡ true)) (sym is) ((found_among (λ k. thread_at run k == t) left r.0 r.1).0, r.2)

  -- what is free may be placed
  pub free_is_ready : (left placed : List ℕ) (k : ℕ) → AreLeft left placed → IsAmong k left → is_free run left k ≡ true → IsReady run placed k
  free_is_ready left placed k h a free =
      let low : k < length run = among_each (λ k. k < length run) left k h.within a in
      record {
        within = low;
        unplaced = h.apart k a;
        ready = λ b before. elim (h.all b (let lt = HappensBefore-before before in omega (arith, low, lt))) [
          | inl l ↦ absurd (both_ways _ (not-true _ free) (any_among (λ a. happens_before run a k) left b l ((happens_before_is run b k).1 before)))
          | inr p ↦ p
        ];
      }

  -- behind it all others are left
  pub left_behind : (left placed : List ℕ) (k : ℕ) → AreLeft left placed → IsAmong k left → AreLeft (without k left) (k ∷ placed)
  left_behind left placed k h a = record {
    rising = Ahead-filter (λ x y. x < y) (λ a. not (a == k)) left h.rising;
    within = Each-weaker _ _ (λ x c. c.0) (without k left) (Each-filter (λ k. k < length run) (λ a. not (a == k)) left h.within);
    all = λ b low. elim (ℕ_discrete b k) [
      | yes e ↦ inr (inl e)
      | no ne ↦ elim (h.all b low) [
        | inl l ↦ inl (among_filter (λ a. not (a == k)) left b l (not_false (b == k) (ne_eqb b k ne)))
        | inr p ↦ inr (inr p)
      ]
    ];
    apart = λ b l p. elim p [
      | inl e ↦ both_ways _ (not-true _ (filter_among (λ a. not (a == k)) left b l).1) (eq-eqb b k e)
      | inr q ↦ h.apart b (filter_among (λ a. not (a == k)) left b l).0 q
    ];
  }

  -- ---- all turns

  placed_all : (turns : ℕ) (c : Chooser) (left placed : List ℕ) → AreLeft left placed → length left ≡ turns
      → IsPlacing run placed (placed_in run c left turns) × ((k : ℕ) → IsAmong k left → IsAmong k (placed_in run c left turns))
  placed_all zero c [] placed h e = (tt, λ k a. a)
  placed_all zero c (x ∷ xs) placed h e = absurd (omega (arith, e))
  placed_all (suc turns) c left placed h e =
      let k = drawn_step run c left in
      let next = next_step c left placed h (omega (arith, e)) in
      let rest = placed_all turns (behind_draw c) (without k left) (k ∷ placed) (left_behind left placed k h next.0) (let l = without_length k left h.rising next.0 in omega (arith, l, e)) in (
        (free_is_ready left placed k h next.0 next.1, rest.0),
        λ b a. elim (ℕ_discrete b k) [
          | yes s ↦ inl s
          | no ne ↦ inr (rest.1 b (among_filter (λ a. not (a == k)) left b a (not_false (b == k) (ne_eqb b k ne))))
        ],
      )

  -- at first all steps are left
  pub left_first : AreLeft (places (length run)) []
  left_first = record {
    rising = Ahead-places 0 (length run);
    within = Each-weaker _ _ (λ k c. omega (arith, c.1)) (places (length run)) (Each-places 0 (length run));
    all = λ k lt. inl (among_places 0 (length run) k (omega arith) (omega arith));
    apart = λ k a b. b;
  }

pub places_length : (a n : ℕ) → length (range_with_len a n) ≡ n
places_length a zero = refl
places_length a (suc n) = ap suc (places_length (a + 1) n)

-- THE DRAWN ORDER IS A REARRANGEMENT
pub shuffled_rearranged : (run : List Footprint) (number : ℕ) → IsRearrangement run (shuffled_order run number)
unfolding shuffled_order
shuffled_rearranged run number =
    let all = placed_all run (length run) (first_chooser number) (places (length run)) [] (left_first run) (places_length 0 (length run)) in
    placing_is_rearrangement run (placed_in run (first_chooser number) (places (length run)) (length run)) all.0
    (λ k lt. all.1 k (among_places 0 (length run) k (omega arith) (omega arith)))

-- its steps are steps of the run
pub shuffled_within : (run : List Footprint) (number : ℕ) → Each (λ k. k < length run) (shuffled_order run number)
unfolding shuffled_order
shuffled_within run number =
    placing_within run [] (placed_in run (first_chooser number) (places (length run)) (length run))
    (placed_all run (length run) (first_chooser number) (places (length run)) [] (left_first run) (places_length 0 (length run))).0
