-- The fronts of the threads tell which are ready, and stay so behind one more step.
use Rattle.mr_witness.proofs.Common.{◌≡◌, ◌≢◌, ℕ, suc, ◌+◌, ◌-◌, ◌<◌, ◌≤◌, ◌^◌, refl, sym, ◌∙◌, ap, subst, arith, List, [], ◌∷◌, ◌++◌, length, get_or, Bool, true, false, Some, None, cond, inl, inr, IsTrue, ◌↔◌, append-nil, append_assoc, ℕ_discrete, ◌==◌, nat_lt, not, ◌&&◌, filter, find, and_from, and_parts, both_ways, cases_Bool, eq-eqb, eqb-true, ne_eqb, not-true, get_or_default, filter-append, Footprint, places, thread_at, happens_before, happens_before_is, not_false, IsAmong, Ahead, Ahead-filter, Ahead-places, Each, Each-filter, Each-places, Each-weaker, filter-kept, filter-left_out, IsBoard, IsNextOf, left_of, above_threads, drawn_step, earliest_of, free_step, is_free, is_ready, placed_in, ready_threads, shuffled_order, step_or_first, without}
use Rattle.std.proofs.Common.{set}
use native.Mathlib.Decide.{dec_lt}
use Rattle.std.proofs.lemmas.Bool.{lt-ltb, le-ltb, ltb-true, ltb-false, false_from_ne_true}
use Rattle.std.proofs.lemmas.List.{get_or-set_same, get_or-set_other, get_or_past, get_or_read, length-set}
use Rattle.mr_event.proofs.Ordered.{HappensBefore-before}
use Rattle.mr_clocks.specs.Whole.{AreFronts, IsReady, front_of}
use Rattle.mr_sched.specs.declared.chooser.Chooser.{Chooser}
use Rattle.mr_sched.specs.Chooser.{behind_draw, drawn_from, first_chooser}
use Rattle.mr_witness.proofs.Drawn.{AreLeft, among_each, among_filter, among_places, any_among, drawn_below, drawn_ready, filter_among, next_step, none_each, places_length, some_ready, thread_below, without_length}
use Rattle.mr_witness.proofs.Chosen.{one_more_place}

-- ---- lists

-- the first element that passes, where the elements rise
find_least : (p : ℕ → Bool) (xs : List ℕ) (k : ℕ) → Ahead (λ x y. x < y) xs → IsAmong k xs → p k ≡ true → ((a : ℕ) → IsAmong a xs → a < k → p a ≡ false) → find p xs ≡ Some k
find_least p [] k h a e least = absurd a
find_least p (x ∷ xs) k h (inl s) e least = ap (λ b. cond b (Some x) (find p xs)) (subst (λ (n : ℕ). p n ≡ true) s e) ∙ ap Some (sym s)
find_least p (x ∷ xs) k h (inr b) e least =
    let lt : x < k = among_each (λ y. x < y) xs k h.0 b in
    ap (λ b. cond b (Some x) (find p xs)) (least x (inl refl) lt) ∙ find_least p xs k h.1 b e (λ a at. least a (inr at))

find_none : (p : ℕ → Bool) (xs : List ℕ) → ((a : ℕ) → IsAmong a xs → p a ≡ false) → find p xs ≡ None
find_none p [] f = refl
find_none p (x ∷ xs) f = ap (λ b. cond b (Some x) (find p xs)) (f x (inl refl)) ∙ find_none p xs (λ a at. f a (inr at))

-- what two tests keep
filter_twice : (p q r : ℕ → Bool) (xs : List ℕ) → Each (λ x. r x ≡ (p x && q x)) xs → filter r xs ≡ filter q (filter p xs)
filter_twice p q r [] h = refl
filter_twice p q r (x ∷ xs) h =
    elim (cases_Bool (p x)) [
      | inl yes_p ↦ elim (cases_Bool (q x)) [
        | inl yes_q ↦
            filter-kept r x xs (h.0 ∙ and_from (p x) (q x) yes_p yes_q) ∙ ap (λ (l : List ℕ). x ∷ l) (filter_twice p q r xs h.1)
            ∙ sym (ap (filter q) (filter-kept p x xs yes_p) ∙ filter-kept q x (filter p xs) yes_q)
        | inr no_q ↦
            filter-left_out r x xs (h.0 ∙ ap (λ b. b && q x) yes_p ∙ no_q) ∙ filter_twice p q r xs h.1
            ∙ sym (ap (filter q) (filter-kept p x xs yes_p) ∙ filter-left_out q x (filter p xs) no_q)
      ]
      | inr no_p ↦
          filter-left_out r x xs (h.0 ∙ ap (λ b. b && q x) no_p) ∙ filter_twice p q r xs h.1
          ∙ sym (ap (filter q) (filter-left_out p x xs no_p))
    ]

-- tests that hold of the same are the same
same_truth : (a b : Bool) → (a ≡ true → b ≡ true) → (b ≡ true → a ≡ true) → a ≡ b
same_truth true b f g = sym (f refl)
same_truth false true f g = absurd (let h = g refl in cc)
same_truth false false f g = refl

each_among : (P : ℕ → Type 0) (xs : List ℕ) → ((k : ℕ) → IsAmong k xs → P k) → Each P xs
each_among P [] f = tt
each_among P (x ∷ xs) f = (f x (inl refl), each_among P xs (λ k a. f k (inr a)))

-- ---- what is left

module _ (run : List Footprint) (fronts : List ℕ) where
  -- whether a step is left
  abbrev keeps : ℕ → Bool
  keeps k = not (nat_lt k (front_of run fronts (thread_at run k)))

  kept : (k : ℕ) → front_of run fronts (thread_at run k) ≤ k → keeps k ≡ true
  kept k le = not_false _ (le-ltb _ _ le)

  keeps_behind : (k : ℕ) → keeps k ≡ true → front_of run fronts (thread_at run k) ≤ k
  keeps_behind k e = ltb-false _ _ (not-true _ e)

  left_is : (k : ℕ) → k < length run → front_of run fronts (thread_at run k) ≤ k → IsAmong k (left_of run fronts)
  left_is k lt le = among_filter keeps (places (length run)) k (among_places 0 (length run) k (omega arith) (omega (arith, lt))) (kept k le)

  is_left : (k : ℕ) → IsAmong k (left_of run fronts) → (k < length run) × (front_of run fronts (thread_at run k) ≤ k)
  is_left k a =
      let r = filter_among keeps (places (length run)) k a in
      (among_each (λ k. k < length run) (places (length run)) k (Each-weaker _ _ (λ k c. omega (arith, c.1)) (places (length run)) (Each-places 0 (length run))) r.0, keeps_behind k r.1)

  -- the steps that are placed
  abbrev placed : List ℕ
  placed = filter (λ k. nat_lt k (front_of run fronts (thread_at run k))) (places (length run))

  -- WHAT IS LEFT is known
  pub known : AreLeft run (left_of run fronts) placed
  known = record {
    rising = Ahead-filter (λ x y. x < y) keeps (places (length run)) (Ahead-places 0 (length run));
    within = Each-weaker _ _ (λ k c. omega (arith, c.0)) (left_of run fronts) (Each-filter (λ k. (0 ≤ k) × (k < 0 + length run)) keeps (places (length run)) (Each-places 0 (length run)));
    all = λ k lt. elim (dec_lt k (front_of run fronts (thread_at run k))) [
      | yes low ↦ inr (among_filter (λ k. nat_lt k (front_of run fronts (thread_at run k))) (places (length run)) k (among_places 0 (length run) k (omega arith) (omega (arith, lt))) (lt-ltb _ _ low))
      | no over ↦ inl (left_is k lt (omega (arith, over)))
    ];
    apart = λ k a b.
        let le = (is_left k a).1 in
        let lt = ltb-true _ _ (filter_among (λ k. nat_lt k (front_of run fronts (thread_at run k))) (places (length run)) k b).1 in
        absurd (omega (arith, le, lt));
  }

  -- where nothing that is left happens before a step, all that happens before it is placed
  free_ready : (k : ℕ) → k < length run → is_free run (left_of run fronts) k ≡ true → IsReady run fronts k
  free_ready k lt e = λ a h.
      let before = HappensBefore-before h in
      elim (dec_lt a (front_of run fronts (thread_at run a))) [
        | yes low ↦ low
        | no over ↦ absurd (both_ways _ (not-true _ e) (any_among (λ a. happens_before run a k) (left_of run fronts) a (left_is a (omega (arith, before, lt)) (omega (arith, over))) ((happens_before_is run a k).1 h)))
      ]

  ready_free : (k : ℕ) → IsReady run fronts k → is_free run (left_of run fronts) k ≡ true
  ready_free k ready =
      not_false _ (none_each (λ a. happens_before run a k) (left_of run fronts)
      (each_among (λ a. happens_before run a k ≡ false) (left_of run fronts)
      (λ a at. false_from_ne_true _ (λ e.
      let lt = ready a ((happens_before_is run a k).0 e) in
      let le = (is_left a at).1 in
      omega (arith, lt, le)))))

  -- the earliest step that is left of a thread is its front
  front_earliest : AreFronts run fronts → (t : ℕ) → front_of run fronts t < length run → earliest_of run (left_of run fronts) t ≡ Some (front_of run fronts t)
  front_earliest own t lt =
      let same = ap (front_of run fronts) (own t lt) in
      find_least (λ k. thread_at run k == t) (left_of run fronts) (front_of run fronts t) known.rising (left_is (front_of run fronts t) lt (omega (arith, same))) (eq-eqb _ _ (own t lt))
      (λ a at low. false_from_ne_true _ (λ e.
      let is = ap (front_of run fronts) (eqb-true _ _ e) in
      let le = (is_left a at).1 in
      omega (arith, is, le, low)))

  front_none : (t : ℕ) → length run ≤ front_of run fronts t → earliest_of run (left_of run fronts) t ≡ None
  front_none t over =
      find_none (λ k. thread_at run k == t) (left_of run fronts)
      (λ a at. false_from_ne_true _ (λ e.
      let is = ap (front_of run fronts) (eqb-true _ _ e) in
      let r = is_left a at in
      let le = r.1 in
      let lt = r.0 in
      omega (arith, is, le, lt, over)))

  -- A THREAD IS READY where all that happens before its front is placed
  pub opens : AreFronts run fronts → (t k : ℕ) (b : Bool) → k ≡ front_of run fronts t → k < length run → (IsTrue b ↔ IsReady run fronts k) → b ≡ is_ready run (left_of run fronts) t
  opens own t k b is lt tells =
      let low : front_of run fronts t < length run = omega (arith, is, lt) in
      same_truth b (is_free run (left_of run fronts) k) (λ e. ready_free k (tells.0 e)) (λ e. tells.1 (free_ready k lt e))
      ∙ ap (is_free run (left_of run fronts)) is
      ∙ sym (ap (free_step run (left_of run fronts)) (front_earliest own t low))

  -- one without a step that is left is not
  pub ends : (t k : ℕ) → k ≡ front_of run fronts t → length run ≤ k → false ≡ is_ready run (left_of run fronts) t
  ends t k is over = sym (ap (free_step run (left_of run fronts)) (front_none t (omega (arith, is, over))))

-- a front that is read from the list
pub front_read : (run : List Footprint) (fronts : List ℕ) (t step : ℕ) → t < length fronts → step ≡ get_or fronts t step → step ≡ front_of run fronts t
front_read run fronts t step lt e = get_or_read fronts t step lt e (length run)

pub front_there : (run : List Footprint) (fronts : List ℕ) (t : ℕ) → t < length fronts → get_or fronts t 0 ≡ front_of run fronts t
front_there run fronts t lt = get_or_default fronts t 0 (length run) lt

-- ---- the loops

-- the next number passes the test, or doesn't
pub chosen_more : (p : ℕ → Bool) (k : ℕ) (xs ys : List ℕ) → xs ≡ filter p (places k) → p k ≡ true → ys ≡ xs ++ k ∷ [] → ys ≡ filter p (places (k + 1))
chosen_more p k xs ys is yes_k pushed =
    pushed ∙ ap (λ l. l ++ k ∷ []) is
    ∙ ap (λ l. filter p (places k) ++ l) (sym (filter-kept p k [] yes_k)) ∙ sym (filter-append p (places k) (k ∷ [])) ∙ ap (filter p) (sym (one_more_place k))

pub chosen_same : (p : ℕ → Bool) (k : ℕ) (xs : List ℕ) → xs ≡ filter p (places k) → p k ≡ false → xs ≡ filter p (places (k + 1))
chosen_same p k xs is no_k =
    is ∙ sym (append-nil (filter p (places k)))
    ∙ ap (λ l. filter p (places k) ++ l) (sym (filter-left_out p k [] no_k)) ∙ sym (filter-append p (places k) (k ∷ [])) ∙ ap (filter p) (sym (one_more_place k))

-- ---- one more step

-- the first step of each thread is its front, and all steps are left
module _ (run : List Footprint) (fronts : List ℕ) (wide : length fronts ≡ above_threads run) (first : (t : ℕ) → t < above_threads run → IsNextOf run t 0 (get_or fronts t 0)) where
  first_of : (t : ℕ) → t < above_threads run → IsNextOf run t 0 (front_of run fronts t)
  first_of t lt = subst (IsNextOf run t 0) (front_there run fronts t (omega (arith, wide, lt))) (first t lt)

  pub board_begins : length fronts ≤ 2 ^ 32 → IsBoard run fronts
  board_begins few = record {
    threads = wide;
    few = few;
    own = λ t low. elim (dec_lt t (above_threads run)) [
      | yes lt ↦ (first_of t lt).own low
      | no past ↦ absurd (let is = get_or_past fronts t (length run) (omega (arith, wide, past)) in omega (arith, is, low))
    ];
  }

  pub all_left : left_of run fronts ≡ places (length run)
  all_left = all (places (length run)) (Each-weaker _ _ (λ k c. one k (omega (arith, c.1))) (places (length run)) (Each-places 0 (length run)))
    where
      one : (k : ℕ) → k < length run → keeps run fronts k ≡ true
      one k lt = kept run fronts k (elim (dec_lt k (front_of run fronts (thread_at run k))) [
        | yes low ↦ absurd ((first_of (thread_at run k) (thread_below run k lt)).none k (omega arith) low refl)
        | no over ↦ omega (arith, over)
      ])

      all : (xs : List ℕ) → Each (λ k. keeps run fronts k ≡ true) xs → filter (keeps run fronts) xs ≡ xs
      all [] h = refl
      all (x ∷ xs) h = filter-kept (keeps run fronts) x xs h.0 ∙ ap (λ (l : List ℕ). x ∷ l) (all xs h.1)

module _ (run : List Footprint) (fronts : List ℕ) (h : IsBoard run fronts) (t : ℕ) (low : t < above_threads run) (ready : is_ready run (left_of run fronts) t ≡ true) where
  abbrev front : ℕ
  front = front_of run fronts t

  -- the front of a ready thread is a step
  pub front_within : front < length run
  front_within =
      elim (dec_lt front (length run)) [
        | yes lt ↦ lt
        | no over ↦ absurd (both_ways _ (ap (free_step run (left_of run fronts)) (front_none run fronts t (omega (arith, over)))) ready)
      ]

  -- it is the earliest one that is left
  pub front_is : front ≡ step_or_first (earliest_of run (left_of run fronts) t)
  front_is = sym (ap step_or_first (front_earliest run fronts h.own t front_within))

  module _ (next : ℕ) (n : IsNextOf run t (front + 1) next) where
    abbrev fronts2 : List ℕ
    fronts2 = set fronts t next

    moved : front_of run fronts2 t ≡ next
    moved = get_or-set_same fronts t next (length run) (let wide = h.threads in omega (arith, wide, low))

    stays : (u : ℕ) → u ≢ t → front_of run fronts2 u ≡ front_of run fronts u
    stays u ne = get_or-set_other fronts t u next (length run) ne

    -- THE BOARD BEHIND IT
    pub board_more : IsBoard run fronts2
    board_more = record {
      threads = length-set fronts t next ∙ h.threads;
      few = let x = length-set fronts t next in let y = h.few in omega (arith, x, y);
      own = λ u within. elim (ℕ_discrete u t) [
        | yes s ↦
            let is : front_of run fronts2 u ≡ next = ap (front_of run fronts2) s ∙ moved in
            ap (thread_at run) is ∙ n.own (omega (arith, is, within)) ∙ sym s
        | no ne ↦
            let is = stays u ne in
            ap (thread_at run) is ∙ h.own u (omega (arith, is, within))
      ];
    }

    -- WHAT IS LEFT BEHIND IT
    pub left_more : left_of run fronts2 ≡ without (step_or_first (earliest_of run (left_of run fronts) t)) (left_of run fronts)
    left_more =
        filter_twice (keeps run fronts) (λ a. not (a == front)) (keeps run fronts2) (places (length run))
        (Each-weaker _ _ (λ k c. one k) (places (length run)) (Each-places 0 (length run)))
        ∙ ap (λ x. without x (left_of run fronts)) front_is
      where
        -- a step behind the new front is behind the old one, and another one
        forth : (k : ℕ) → front_of run fronts2 (thread_at run k) ≤ k → (front_of run fronts (thread_at run k) ≤ k) × (k ≢ front)
        forth k le = elim (ℕ_discrete (thread_at run k) t) [
          | yes s ↦
              let is : front_of run fronts2 (thread_at run k) ≡ next = ap (front_of run fronts2) s ∙ moved in
              let was = ap (front_of run fronts) s in
              let behind = n.behind in
              (omega (arith, is, was, behind, le), λ e. omega (arith, is, behind, le, e))
          | no ne ↦
              let is = stays (thread_at run k) ne in
              (omega (arith, is, le), λ e. ne (ap (thread_at run) e ∙ h.own t front_within))
        ]

        back : (k : ℕ) → front_of run fronts (thread_at run k) ≤ k → k ≢ front → front_of run fronts2 (thread_at run k) ≤ k
        back k le other = elim (ℕ_discrete (thread_at run k) t) [
          | yes s ↦
              let is : front_of run fronts2 (thread_at run k) ≡ next = ap (front_of run fronts2) s ∙ moved in
              let was = ap (front_of run fronts) s in
              elim (dec_lt k next) [
                | yes lt ↦ absurd (n.none k (omega (arith, was, le, other)) lt s)
                | no over ↦ omega (arith, is, over)
              ]
          | no ne ↦ let is = stays (thread_at run k) ne in omega (arith, is, le)
        ]

        one : (k : ℕ) → keeps run fronts2 k ≡ (keeps run fronts k && not (k == front))
        one k =
            same_truth _ _
            (λ e. let r = forth k (keeps_behind run fronts2 k e) in and_from _ _ (kept run fronts k r.0) (not_false _ (ne_eqb k front r.1)))
            (λ e.
            let parts = and_parts _ _ e in
            kept run fronts2 k (back k (keeps_behind run fronts k parts.0) (λ s. both_ways _ (not-true _ parts.1) (eq-eqb k front s))))

-- the same of a step that is the front
pub taken_within : (run : List Footprint) (fronts : List ℕ) → IsBoard run fronts → (t step : ℕ) → t < above_threads run → is_ready run (left_of run fronts) t ≡ true → step ≡ front_of run fronts t → step < length run
taken_within run fronts h t step low ready e = let lt = front_within run fronts h t low ready in omega (arith, e, lt)

pub taken_board : (run : List Footprint) (fronts : List ℕ) → IsBoard run fronts → (t step next : ℕ) → t < above_threads run → is_ready run (left_of run fronts) t ≡ true → step ≡ front_of run fronts t → IsNextOf run t (step + 1) next
    → IsBoard run (set fronts t next) × (left_of run (set fronts t next) ≡ without (step_or_first (earliest_of run (left_of run fronts) t)) (left_of run fronts))
taken_board run fronts h t step next low ready e n =
    let there : IsNextOf run t (front_of run fronts t + 1) next = subst (λ (x : ℕ). IsNextOf run t (x + 1) next) e n in
    (board_more run fronts h t low ready next there, left_more run fronts h t low ready next there)

-- ---- one turn

-- before the first turn
pub begins_told : (run : List Footprint) (number : ℕ) (order fronts : List ℕ) (c : Chooser) → order ≡ [] → c ≡ first_chooser number → left_of run fronts ≡ places (length run)
    → order ++ placed_in run c (left_of run fronts) (length run - 0) ≡ shuffled_order run number
unfolding shuffled_order
begins_told run number order fronts c none first all =
    let whole : length run - 0 ≡ length run = omega arith in
    λ k. none k ++ placed_in run (first k) (all k) (whole k)

pub begins_many : (run : List Footprint) (fronts : List ℕ) → left_of run fronts ≡ places (length run) → length (left_of run fronts) ≡ length run - 0
begins_many run fronts all = let wide = places_length 0 (length run) in let same = ap length all in omega (arith, same, wide)

-- what the steps that are placed and those of the turns to come tell stays the same
pub turn_told : (run : List Footprint) (c : Chooser) (left left2 order order2 all : List ℕ) (n turn : ℕ) → turn < n → order ++ placed_in run c left (n - turn) ≡ all
    → order2 ≡ order ++ drawn_step run c left ∷ [] → left2 ≡ without (drawn_step run c left) left → order2 ++ placed_in run (behind_draw c) left2 (n - (turn + 1)) ≡ all
turn_told run c left left2 order order2 all n turn lt told pushed behind =
    let one : n - turn ≡ suc (n - (turn + 1)) = omega (arith, lt) in
    (λ k. pushed k ++ placed_in run (behind_draw c) (behind k) (n - (turn + 1)))
    ∙ append_assoc order (drawn_step run c left ∷ []) (placed_in run (behind_draw c) (without (drawn_step run c left) left) (n - (turn + 1)))
    ∙ ap (λ m. order ++ placed_in run c left m) (sym one)
    ∙ told

module _ (run : List Footprint) (fronts : List ℕ) (c : Chooser) (ready : List ℕ) (turn thread : ℕ) (lt : turn < length run) (many : length (left_of run fronts) ≡ length run - turn) (is : ready ≡ ready_threads run (left_of run fronts)) where
  turn_ready : 0 < length (ready_threads run (left_of run fronts))
  turn_ready = some_ready run (left_of run fronts) (placed run fronts) (known run fronts) (omega (arith, lt, many))

  -- some thread is ready
  pub turn_some : 0 < length ready
  turn_some = subst (λ (l : List ℕ). 0 < length l) (sym is) turn_ready

  module _ (drawn : thread ≡ drawn_from c ready) where
    pub turn_thread : thread ≡ drawn_from c (ready_threads run (left_of run fronts))
    turn_thread = drawn ∙ ap (drawn_from c) is

    -- the drawn one is
    pub turn_below : thread < above_threads run
    turn_below = subst (λ (t : ℕ). t < above_threads run) (sym turn_thread) (drawn_below run c (left_of run fronts) turn_ready)

    pub turn_is_ready : is_ready run (left_of run fronts) thread ≡ true
    turn_is_ready = subst (λ (t : ℕ). is_ready run (left_of run fronts) t ≡ true) (sym turn_thread) (drawn_ready run c (left_of run fronts) turn_ready)

    pub turn_step : step_or_first (earliest_of run (left_of run fronts) thread) ≡ drawn_step run c (left_of run fronts)
    turn_step = ap (λ t. step_or_first (earliest_of run (left_of run fronts) t)) turn_thread

    -- and one step less is left
    pub turn_many : (left2 : List ℕ) → left2 ≡ without (drawn_step run c (left_of run fronts)) (left_of run fronts) → length left2 ≡ length run - (turn + 1)
    turn_many left2 e =
        let k = known run fronts in
        let next = next_step run c (left_of run fronts) (placed run fronts) k (omega (arith, lt, many)) in
        let less = without_length (drawn_step run c (left_of run fronts)) (left_of run fronts) k.rising next.0 in
        let same = ap length e in
        omega (arith, less, many, same)
