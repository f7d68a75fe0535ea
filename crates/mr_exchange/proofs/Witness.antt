-- A choice of steps runs alone, with the first pair at its end, and no race is reported before that pair.
use Rattle.mr_exchange.proofs.Common.{◌≡◌, ℕ, suc, ◌<◌, ◌≤◌, ◌+◌, ◌-◌, List, [], ◌∷◌, ◌++◌, length, Bool, true, false, not, ◌&&◌, refl, sym, ◌∙◌, ap, subst, inl, inr, arith, append_assoc, zero-add, ℕ_discrete, dec_lt, ◌==◌, filter, range_with_len, both_ways, eq-eqb, ne_eqb, and_parts, eqb-true, cases_Bool, not-true, Footprint, wakes, step_at, thread_at, places, Edge, HappensBefore, RacePair, in_thread, woken, dependent, edge, woken_before, last_edge, Edge-before, HappensBefore-before, some_race_sym, AreIndependent, Machine, Runs, IsFirstPair, Selects, IsReported}
use Rattle.std.proofs.lemmas.List.Elements.{filter-append}
use Rattle.mr_event.specs.Kept.{selected}
use Rattle.mr_exchange.specs.Shown.{AreAdjacent, steps_of, EveryChoiceShows}
use Rattle.mr_exchange.proofs.Lists.{Each, Ahead, Each-weaker, Each-filter, Ahead-with, Ahead-weaker, Each-places, Ahead-places, range_with_len-parts, filter-agree, filter-kept, filter-left_out, NoneBetween, AreAdjacent-with, Ends-with, AreAdjacent-push, AreAdjacent-gaps, Ends-gap}
use Rattle.mr_exchange.proofs.Moves.{runs_kept, runs_parts, runs_joined, runs_moved_back}
use Rattle.mr_exchange.proofs.Unordered.{independent_steps}

-- the places up to j, with i among them
places_to_second : (i d : ℕ) → places (suc (i + suc d)) ≡ places i ++ i ∷ (range_with_len (i + 1) d ++ (i + suc d) ∷ [])
places_to_second i d =
    let e : suc (i + suc d) ≡ i + suc (d + 1) = omega arith in
    let f : (i + 1) + d ≡ i + suc d = omega arith in
    let g : range_with_len (i + 1) (d + 1) ≡ range_with_len (i + 1) d ++ (i + suc d) ∷ [] = range_with_len-parts (i + 1) d 1 ∙ ap (λ (k : ℕ). range_with_len (i + 1) d ++ k ∷ []) f in
    ap places e ∙ range_with_len-parts 0 i (suc (d + 1)) ∙ ap (λ (k : ℕ). places i ++ range_with_len k (suc (d + 1))) (zero-add i) ∙ ap (λ (l : List ℕ). places i ++ i ∷ l) g

places_before_second : (i d : ℕ) → places (i + suc d) ≡ places i ++ i ∷ range_with_len (i + 1) d
places_before_second i d =
    range_with_len-parts 0 i (suc d) ∙ ap (λ (k : ℕ). places i ++ range_with_len k (suc d)) (zero-add i)

but_first : (keep : ℕ → Bool) (i k : ℕ) → (k ≡ i → ⊥) → (keep k && not (k == i)) ≡ keep k
but_first keep i k ne = rw (ne_eqb k i ne) (by (keep k))
  where
    by : (b : Bool) → (b && not false) ≡ b
    by true = refl
    by false = refl

at_first : (keep : ℕ → Bool) (i : ℕ) → (keep i && not (i == i)) ≡ false
at_first keep i = rw (eq-eqb i i refl) (by (keep i))
  where
    by : (b : Bool) → (b && not true) ≡ false
    by true = refl
    by false = refl

filter_around : (p : ℕ → Bool) (xs ys : List ℕ) (x y : ℕ) → p x ≡ true → p y ≡ true → filter p (xs ++ x ∷ (ys ++ y ∷ [])) ≡ filter p xs ++ x ∷ (filter p ys ++ y ∷ [])
filter_around p xs ys x y e f =
    filter-append p xs (x ∷ (ys ++ y ∷ []))
    ∙ ap (λ (l : List ℕ). filter p xs ++ l) (filter-kept p x (ys ++ y ∷ []) e ∙ ap (λ (l : List ℕ). x ∷ l) (filter-append p ys (y ∷ []) ∙ ap (λ (l : List ℕ). filter p ys ++ l) (filter-kept p y [] f)))

filter_without : (keep : ℕ → Bool) (xs ys : List ℕ) (i : ℕ) → Each (λ k. (keep k && not (k == i)) ≡ keep k) xs → Each (λ k. (keep k && not (k == i)) ≡ keep k) ys → filter (λ k. keep k && not (k == i)) (xs ++ i ∷ ys) ≡ filter keep xs ++ filter keep ys
filter_without keep xs ys i h k =
    filter-append (λ k. keep k && not (k == i)) xs (i ∷ ys)
    ∙ ap (λ (l : List ℕ). filter (λ k. keep k && not (k == i)) xs ++ l) (filter-left_out (λ k. keep k && not (k == i)) i ys (at_first keep i))
    ∙ ap (λ (l : List ℕ). l ++ filter (λ k. keep k && not (k == i)) ys) (filter-agree _ keep xs h)
    ∙ ap (λ (l : List ℕ). filter keep xs ++ l) (filter-agree _ keep ys k)

-- what is reported is no edge
pub reported_edge : (run : List Footprint) (x y : ℕ) → IsReported run x y → Edge run x y → ⊥
reported_edge run x y r (in_thread lt e) = r.apart e
reported_edge run x y r (woken s) = both_ways _ r.asleep s.woken
reported_edge run x y r (dependent lt d n) =
    n (record { apart = r.apart; race = r.race; unsynced = λ s. both_ways _ r.asleep s.woken })

-- and a race pair, unless the steps are ordered
pub reported_pair : (run : List Footprint) (x y : ℕ) → x < y → IsReported run x y → (HappensBefore run x y → ⊥) → RacePair run x y
reported_pair run x y lt r n =
    record {
      before = lt;
      races = record { apart = r.apart; race = r.race; unsynced = λ s. both_ways _ r.asleep s.woken };
      unordered = n;
    }

module _ (run : List Footprint) (i j : ℕ) (keep : ℕ → Bool) (pair : IsFirstPair run i j) (sel : Selects run i j keep) where
  -- a left-out step is independent of each later kept one
  left_out : (a b : ℕ) → a < b → b ≤ j → keep a ≡ false → keep b ≡ true → AreIndependent (step_at run a) (step_at run b)
  left_out a b lt le no_a yes_b =
      independent_steps run a b lt
      (λ h. both_ways (keep a) no_a (sel.closed a b le yes_b h))
      (λ r. elim (dec_lt b j) [
        | yes below ↦ pair.earliest a b below r
        | no over ↦
            let same : b ≡ j = omega arith in
            both_ways (keep a) no_a (sel.rivals a (subst (λ (k : ℕ). RacePair run a k) same r))
      ])

  -- the first step of the pair is independent of each later kept one before j
  first_free : (k : ℕ) → i < k → k < j → keep k ≡ true → AreIndependent (step_at run i) (step_at run k)
  first_free k lt below yes_k = independent_steps run i k lt (sel.movable k below yes_k) (pair.earliest i k below)

  -- the kept steps, and the selected order of them
  pub kept_parts : (d : ℕ) → j ≡ i + suc d → filter keep (places (suc j)) ≡ filter keep (places i) ++ i ∷ (filter keep (range_with_len (i + 1) d) ++ j ∷ [])
  kept_parts d e =
      ap (λ (k : ℕ). filter keep (places (suc k))) e
      ∙ ap (filter keep) (places_to_second i d)
      ∙ filter_around keep (places i) (range_with_len (i + 1) d) i (i + suc d) sel.first (subst (λ (k : ℕ). keep k ≡ true) e sel.second)
      ∙ ap (λ (k : ℕ). filter keep (places i) ++ i ∷ (filter keep (range_with_len (i + 1) d) ++ k ∷ [])) (sym e)

  pub selected_parts : (d : ℕ) → j ≡ i + suc d → selected keep i j ≡ filter keep (places i) ++ (filter keep (range_with_len (i + 1) d) ++ i ∷ j ∷ [])
  selected_parts d e =
      ap (λ (l : List ℕ). l ++ i ∷ j ∷ [])
      (ap (λ (k : ℕ). filter (λ x. keep x && not (x == i)) (places k)) e
      ∙ ap (filter (λ x. keep x && not (x == i))) (places_before_second i d)
      ∙ filter_without keep (places i) (range_with_len (i + 1) d) i
      (Each-weaker _ _ (λ k c. but_first keep i k (λ same. absurd (omega arith))) (places i) (Each-places 0 i))
      (Each-weaker _ _ (λ k c. but_first keep i k (λ same. absurd (omega arith))) (range_with_len (i + 1) d) (Each-places (i + 1) d)))
      ∙ append_assoc (filter keep (places i)) (filter keep (range_with_len (i + 1) d)) (i ∷ j ∷ [])

  -- the first step of the pair is independent of the kept steps behind it
  pub behind_first : (d : ℕ) → j ≡ i + suc d → Each (λ k. AreIndependent (step_at run i) (step_at run k)) (filter keep (range_with_len (i + 1) d))
  behind_first d e =
      Each-weaker _ _ (λ k c. first_free k (omega (arith, c.0)) (omega (arith, c.0, e)) c.1) (filter keep (range_with_len (i + 1) d)) (Each-filter _ keep (range_with_len (i + 1) d) (Each-places (i + 1) d))

  -- the choice runs alone
  pub selected_runs : (m : Machine run) (s t : m.State) → Runs m s (places (suc j)) t → (u : m.State) × Runs m s (selected keep i j) u
  selected_runs m s t h =
      let lt : i < j = pair.pair.before in
      by (j - suc i) (omega arith)
    where
      by : (d : ℕ) → j ≡ i + suc d → (u : m.State) × Runs m s (selected keep i j) u
      by d e =
          let alone = runs_kept run m keep s t (places (suc j)) (Ahead-weaker _ _ (λ a b c n y. left_out a b c.0 (omega (arith, c.2)) n y) (places (suc j)) (Ahead-with (λ k. (0 ≤ k) × (k < 0 + suc j)) _ (places (suc j)) (Each-places 0 (suc j)) (Ahead-places 0 (suc j)))) h in
          let p = runs_parts run m s alone.0 (filter keep (places i)) (i ∷ (filter keep (range_with_len (i + 1) d) ++ j ∷ [])) (subst (λ l. Runs m s l alone.0) (kept_parts d e) alone.1) in
          let moved = runs_moved_back run m p.0 alone.0 i (filter keep (range_with_len (i + 1) d)) (j ∷ []) (behind_first d e) p.2 in
          (alone.0, subst (λ l. Runs m s l alone.0) (sym (selected_parts d e)) (runs_joined run m s p.0 alone.0 (filter keep (places i)) (filter keep (range_with_len (i + 1) d) ++ i ∷ j ∷ []) p.1 moved))

  -- two kept steps with no kept step between them are not reported
  calm_pair : (x y : ℕ) → x < y → y < j → keep x ≡ true → keep y ≡ true → (y ≡ i → ⊥) → NoneBetween (λ k. keep k && not (k == i)) x y → IsReported run x y → ⊥
  calm_pair x y lt below yes_x yes_y other gap r =
      pair.earliest x y below (reported_pair run x y lt r (λ h. elim (last_edge h) [
        | inl e ↦ reported_edge run x y r e
        | inr t ↦
            let low : x < t.0 = HappensBefore-before t.1 in
            let high : t.0 < y = Edge-before t.2 in
            let kept : keep t.0 ≡ true = sel.closed t.0 y (omega arith) yes_y (edge t.2) in
            elim (ℕ_discrete t.0 i) [
              | yes same ↦ sel.movable y below yes_y (subst (λ (k : ℕ). HappensBefore run k y) same (edge t.2))
              | no different ↦ both_ways _ (gap t.0 low high) (but_first keep i t.0 different ∙ kept)
            ]
      ]))

  -- nor is the first step of the pair behind the last kept step before j
  calm_first : (x : ℕ) → x < j → keep x ≡ true → (x ≡ i → ⊥) → NoneBetween (λ k. keep k && not (k == i)) x j → IsReported run x i → ⊥
  calm_first x below yes_x other gap r =
      elim (dec_lt x i) [
        | yes lt ↦
            pair.earliest x i pair.pair.before (reported_pair run x i lt r (λ h. elim (last_edge h) [
              | inl e ↦ reported_edge run x i r e
              | inr t ↦
                  let low : x < t.0 = HappensBefore-before t.1 in
                  let high : t.0 < i = Edge-before t.2 in
                  let lt_j : i < j = pair.pair.before in
                  let kept : keep t.0 ≡ true = sel.closed t.0 i (omega arith) sel.first (edge t.2) in
                  both_ways _ (gap t.0 low (omega arith)) (but_first keep i t.0 (λ same. absurd (omega arith)) ∙ kept)
            ]))
        | no over ↦
            let lt : i < x = omega arith in
            pair.earliest i x below (record {
              before = lt;
              races = record {
                apart = λ e. r.apart (sym e);
                race = some_race_sym (step_at run x).accesses (step_at run i).accesses r.race;
                unsynced = λ sync. sel.movable x below yes_x (edge (woken sync));
              };
              unordered = sel.movable x below yes_x;
            })
      ]

  -- no step of the choice but the last is reported behind its predecessor
  pub selected_calm : AreAdjacent (λ x y. IsReported run x y → ⊥) (filter (λ k. keep k && not (k == i)) (places j) ++ i ∷ [])
  selected_calm =
      AreAdjacent-push (λ x y. IsReported run x y → ⊥) chosen i
      (AreAdjacent-with (λ k. (k < j) × (keep k ≡ true) × (k ≡ i → ⊥)) _ (λ x y. IsReported run x y → ⊥) (λ x y a b g r. calm_pair x y g.0 b.0 a.1 b.1 b.2 g.1 r) chosen facts (AreAdjacent-gaps test 0 j))
      (Ends-with (λ k. (k < j) × (keep k ≡ true) × (k ≡ i → ⊥)) (λ k. NoneBetween test k (0 + j)) (λ x. IsReported run x i → ⊥) (λ x a g r. calm_first x a.0 a.1 a.2 (λ c low high. g c low (omega arith)) r) chosen facts (Ends-gap test 0 j))
    where
      test : ℕ → Bool
      test k = keep k && not (k == i)

      chosen : List ℕ
      chosen = filter test (places j)

      facts : Each (λ k. (k < j) × (keep k ≡ true) × (k ≡ i → ⊥)) chosen
      facts =
          Each-weaker _ _
          (λ k c.
          let parts = and_parts (keep k) (not (k == i)) c.1 in
          (omega (arith, c.0), parts.0, λ same. both_ways _ (not-true (k == i) parts.1) (eq-eqb k i same)))
          chosen (Each-filter _ test (places j) (Each-places 0 j))

-- the last pair is reported
pub pair_reported : (run : List Footprint) (i j : ℕ) → RacePair run i j → IsReported run i j
pair_reported run i j p =
    record {
      apart = p.races.apart;
      race = p.races.race;
      asleep = elim (cases_Bool (wakes (step_at run i) (thread_at run j))) [
        | inl e ↦ absurd (p.unordered (woken_before run i j p.before e))
        | inr e ↦ e
      ];
    }

filter_none : (p : ℕ → Bool) (xs : List ℕ) → Each (λ k. p k ≡ false) xs → filter p xs ≡ []
filter_none p [] h = refl
filter_none p (x ∷ xs) h = filter-left_out p x xs h.0 ∙ filter_none p xs h.1

-- where a kept step has all earlier ones of its kind kept, the kept ones of the kind are a prefix of those of the kind
filter_prefix : (kind keep : ℕ → Bool) (xs : List ℕ) → Ahead (λ a b. kind a ≡ true → kind b ≡ true → keep b ≡ true → keep a ≡ true) xs → (rest : List ℕ) × (filter kind (filter keep xs) ++ rest ≡ filter kind xs)
filter_prefix kind keep [] h = ([], refl)
filter_prefix kind keep (x ∷ xs) h =
    elim (cases_Bool (kind x)) [
      | inl of_kind ↦ elim (cases_Bool (keep x)) [
        | inl kept ↦
            let p = filter_prefix kind keep xs h.1 in
            (p.0, rw (filter-kept keep x xs kept, filter-kept kind x (filter keep xs) of_kind, filter-kept kind x xs of_kind) (ap (λ (l : List ℕ). x ∷ l) p.1))
        | inr left ↦ (
          filter kind (x ∷ xs),
          rw (filter-left_out keep x xs left) (ap (λ (l : List ℕ). l ++ filter kind (x ∷ xs)) (filter_none kind (filter keep xs) (Each-weaker (λ k. (kind x ≡ true → kind k ≡ true → keep k ≡ true → keep x ≡ true) × (keep k ≡ true)) (λ k. kind k ≡ false) (λ k c. elim (cases_Bool (kind k)) [
            | inl yes_k ↦ absurd (both_ways _ left (c.0 of_kind yes_k c.1))
            | inr no_k ↦ no_k
          ]) (filter keep xs) (Each-filter _ keep xs h.0)))),
        )
      ]
      | inr other ↦ elim (cases_Bool (keep x)) [
        | inl kept ↦
            let p = filter_prefix kind keep xs h.1 in
            (p.0, rw (filter-kept keep x xs kept, filter-left_out kind x (filter keep xs) other, filter-left_out kind x xs other) p.1)
        | inr left ↦
            let p = filter_prefix kind keep xs h.1 in
            (p.0, rw (filter-left_out keep x xs left, filter-left_out kind x xs other) p.1)
      ]
    ]

-- the kind of x is not that of the ys, or x is not of the kind: x stands behind the ys as well as before them
filter_behind : (kind : ℕ → Bool) (x : ℕ) (ys zs : List ℕ) → (kind x ≡ true → Each (λ k. kind k ≡ false) ys) → filter kind (ys ++ x ∷ zs) ≡ filter kind (x ∷ (ys ++ zs))
filter_behind kind x ys zs h =
    elim (cases_Bool (kind x)) [
      | inl e ↦
          let none = filter_none kind ys (h e) in
          filter-append kind ys (x ∷ zs) ∙ ap (λ (l : List ℕ). l ++ filter kind (x ∷ zs)) none ∙ filter-kept kind x zs e
          ∙ sym (filter-kept kind x (ys ++ zs) e ∙ ap (λ (l : List ℕ). x ∷ l) (filter-append kind ys zs ∙ ap (λ (l : List ℕ). l ++ filter kind zs) none))
      | inr e ↦
          filter-append kind ys (x ∷ zs) ∙ ap (λ (l : List ℕ). filter kind ys ++ l) (filter-left_out kind x zs e)
          ∙ sym (filter-left_out kind x (ys ++ zs) e ∙ filter-append kind ys zs)
    ]

module _ (run : List Footprint) (i j : ℕ) (keep : ℕ → Bool) (pair : IsFirstPair run i j) (sel : Selects run i j keep) (t : ℕ) where
  kept_prefix : (rest : List ℕ) × (steps_of run t (filter keep (places (suc j))) ++ rest ≡ steps_of run t (places (suc j)))
  kept_prefix =
      filter_prefix (λ k. thread_at run k == t) keep (places (suc j))
      (Ahead-weaker _ _ (λ a b c ka kb yes. sel.closed a b (omega (arith, c.2)) yes (edge (in_thread c.0 (eqb-true _ _ ka ∙ sym (eqb-true _ _ kb))))) (places (suc j))
      (Ahead-with (λ k. (0 ≤ k) × (k < 0 + suc j)) _ (places (suc j)) (Each-places 0 (suc j)) (Ahead-places 0 (suc j))))

  same_thread_order : (d : ℕ) → j ≡ i + suc d → steps_of run t (selected keep i j) ≡ steps_of run t (filter keep (places (suc j)))
  same_thread_order d e =
      let behind = behind_first run i j keep pair sel d e in
      let apart : thread_at run i == t ≡ true → Each (λ k. (thread_at run k == t) ≡ false) (filter keep (range_with_len (i + 1) d)) =
      λ of_t. Each-weaker _ _ (λ k free. ne_eqb _ _ (λ same. free.apart (eqb-true _ _ of_t ∙ sym same))) (filter keep (range_with_len (i + 1) d)) behind in
      ap (steps_of run t) (selected_parts run i j keep pair sel d e)
      ∙ filter-append (λ k. thread_at run k == t) (filter keep (places i)) (filter keep (range_with_len (i + 1) d) ++ i ∷ j ∷ [])
      ∙ ap (λ (l : List ℕ). steps_of run t (filter keep (places i)) ++ l) (filter_behind (λ k. thread_at run k == t) i (filter keep (range_with_len (i + 1) d)) (j ∷ []) apart)
      ∙ sym (filter-append (λ k. thread_at run k == t) (filter keep (places i)) (i ∷ (filter keep (range_with_len (i + 1) d) ++ j ∷ [])))
      ∙ sym (ap (steps_of run t) (kept_parts run i j keep pair sel d e))

  -- the entries of each thread are a prefix of its recorded ones
  pub selected_prefix : (rest : List ℕ) × (steps_of run t (selected keep i j) ++ rest ≡ steps_of run t (places (length run)))
  selected_prefix =
      let lt : i < j = pair.pair.before in
      let within : j < length run = pair.within in
      by (length run - suc j) (omega arith) (same_thread_order (j - suc i) (omega arith))
    where
      by : (m : ℕ) → length run ≡ suc j + m → steps_of run t (selected keep i j) ≡ steps_of run t (filter keep (places (suc j))) → (rest : List ℕ) × (steps_of run t (selected keep i j) ++ rest ≡ steps_of run t (places (length run)))
      by m e same =
          let more = steps_of run t (range_with_len (0 + suc j) m) in (
            kept_prefix.0 ++ more,
            sym (append_assoc (steps_of run t (selected keep i j)) kept_prefix.0 more)
                ∙ ap (λ (l : List ℕ). l ++ more) (ap (λ (l : List ℕ). l ++ kept_prefix.0) same ∙ kept_prefix.1)
                ∙ sym (ap (λ (k : ℕ). steps_of run t (places k)) e ∙ ap (steps_of run t) (range_with_len-parts 0 (suc j) m) ∙ filter-append (λ k. thread_at run k == t) (places (suc j)) (range_with_len (0 + suc j) m)),
          )

-- so a choice shows the pair to the machine
pub selected_is_shown : EveryChoiceShows
selected_is_shown run i j keep pair sel m s t h =
    let w = selected_runs run i j keep pair sel m s t h in
    record {
      front = filter (λ k. keep k && not (k == i)) (places j);
      ends = refl;
      goal_state = w.0;
      runs = w.1;
      calm = selected_calm run i j keep pair sel;
      reported = pair_reported run i j pair.pair;
      prefix = selected_prefix run i j keep pair sel;
    }
