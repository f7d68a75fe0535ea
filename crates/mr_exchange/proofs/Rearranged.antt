-- A rearrangement of a run without a race pair runs, to the same end, and has no race pair.
use Rattle.mr_exchange.proofs.Common.{◌≡◌, ◌≢◌, ℕ, suc, zero, ◌<◌, ◌≤◌, ◌+◌, List, [], ◌∷◌, ◌++◌, length, map, get_or, true, false, cond, refl, sym, ◌∙◌, ap, subst, inl, inr, arith, ℕ_discrete, ◌==◌, range_with_len, both_ways, eq-eqb, ne_eqb, cases_Bool, some_race, Footprint, wakes, no_step, step_at, thread_at, places, Edge, HappensBefore, RacePair, IsRearrangement, in_thread, woken, dependent, edge, chain, woken_before, last_edge, Edge-before, HappensBefore-before, some_race_sym, Machine, Runs, IsReported}
use Rattle.std.proofs.Common.{IsTrue}
use Rattle.std.specs.Prelude.{IsPermutation}
use Rattle.std.specs.List.{sum_by}
use Rattle.std.proofs.lemmas.Bool.{cases_order}
use Rattle.std.proofs.lemmas.List.{get_or-map}
use Rattle.std.proofs.lemmas.List.Sums.{sum_by-cons}
use Rattle.std.proofs.lemmas.List.Sorted.{IsPermutation-refl, IsPermutation-trans, IsPermutation-middle, IsPermutation-cons, sum_by-IsPermutation}
use Rattle.mr_exchange.specs.Shown.{EveryOrderRuns}
use Rattle.mr_exchange.proofs.Lists.{Each, Ahead, Each-at, Each-weaker, Each-left, Each-with, Each-both, Ahead-middle, Ahead-without, Each-places, Ahead-places}
use Rattle.mr_exchange.proofs.Moves.{Drawn, runs_drawn}
use Rattle.mr_exchange.proofs.Unordered.{independent_steps}
use Rattle.mr_exchange.proofs.Witness.{reported_edge, reported_pair}

-- how often k stands in the list
abbrev pub times : ℕ → List ℕ → ℕ
times k [] = 0
times k (x ∷ xs) = cond (x == k) 1 0 + times k xs

times_is : (k : ℕ) (xs : List ℕ) → sum_by (λ x. cond (x == k) 1 0) xs ≡ times k xs
times_is k [] = refl
times_is k (x ∷ xs) = sum_by-cons (λ x. cond (x == k) 1 0) x xs ∙ ap (λ (n : ℕ). cond (x == k) 1 0 + n) (times_is k xs)

pub times-same : (k : ℕ) (xs : List ℕ) → times k (k ∷ xs) ≡ suc (times k xs)
times-same k xs = rw (eq-eqb k k refl) (omega arith)

times-append : (k : ℕ) (xs ys : List ℕ) → times k (xs ++ ys) ≡ times k xs + times k ys
times-append k [] ys = omega arith
times-append k (x ∷ xs) ys = omega (arith, times-append k xs ys)

-- an element that is not the first stands in the rest
still : (k x : ℕ) (xs : List ℕ) → (x ≡ k → ⊥) → 0 < times k (x ∷ xs) → 0 < times k xs
still k x xs ne h = let e = ne_eqb x k ne in omega (arith, (rw e at h))

-- an element that stands in the list splits it
found : (k : ℕ) (xs : List ℕ) → 0 < times k xs → (a : List ℕ) × (b : List ℕ) × (xs ≡ a ++ k ∷ b)
found k [] h = absurd (omega arith)
found k (x ∷ xs) h =
    elim (ℕ_discrete x k) [
      | yes e ↦ ([], xs, ap (λ (y : ℕ). y ∷ xs) e)
      | no ne ↦ later k x xs (found k xs (still k x xs ne h))
    ]
  where
    later : (k x : ℕ) (xs : List ℕ) → (a : List ℕ) × (b : List ℕ) × (xs ≡ a ++ k ∷ b) → (a : List ℕ) × (b : List ℕ) × (x ∷ xs ≡ a ++ k ∷ b)
    later k x xs p = (x ∷ p.0, p.1, ap (λ (l : List ℕ). x ∷ l) p.2)

-- the elements stand equally often in both
abbrev pub SameTimes : List ℕ → List ℕ → Type 0
SameTimes xs ys = (k : ℕ) → times k xs ≡ times k ys

SameTimes-without : (x : ℕ) (zs a b o : List ℕ) → SameTimes (x ∷ zs) o → o ≡ a ++ x ∷ b → SameTimes zs (a ++ b)
SameTimes-without x zs a b o h e k =
    let same : cond (x == k) 1 0 + times k zs ≡ times k o = h k in
    let split : times k o ≡ times k a + times k (x ∷ b) = ap (times k) e ∙ times-append k a (x ∷ b) in
    omega (arith, same, split, times-append k a b)

Each-from_times : (P : ℕ → Type 0) (zs o : List ℕ) → SameTimes zs o → Each P zs → Each P o
Each-from_times P [] [] h k = tt
Each-from_times P [] (y ∷ o) h k = absurd (let e = h y in omega (arith, e, times-same y o))
Each-from_times P (x ∷ zs) o h k =
    let p = found x o (omega (arith, h x, times-same x zs)) in
    subst (λ l. Each P l) (sym p.2) (Each-with P p.0 x p.1 k.0 (Each-from_times P zs (p.0 ++ p.1) (SameTimes-without x zs p.0 p.1 o h p.2) k.1))

-- lists in which each number stands equally often are permutations of one another
pub permutation_from_times : (zs o : List ℕ) → SameTimes zs o → IsPermutation o zs
permutation_from_times [] [] h = IsPermutation-refl []
permutation_from_times [] (y ∷ o) h = absurd (let e = h y in omega (arith, e, times-same y o))
permutation_from_times (x ∷ zs) o h =
    let p = found x o (omega (arith, h x, times-same x zs)) in
    let inner = permutation_from_times zs (p.0 ++ p.1) (SameTimes-without x zs p.0 p.1 o h p.2) in
    subst (λ l. IsPermutation l (x ∷ zs)) (sym p.2)
    (IsPermutation-trans (p.0 ++ x ∷ p.1) (x ∷ (p.0 ++ p.1)) (x ∷ zs) (IsPermutation-middle p.0 x p.1) (IsPermutation-cons x (p.0 ++ p.1) zs inner))

module _ (run : List Footprint) (n : ℕ) (none : (i j : ℕ) → j < n → RacePair run i j → ⊥) where
  -- a list that keeps the order draws its steps out of the recorded order
  drawn : (zs o : List ℕ) → SameTimes zs o → Each (λ k. k < n) zs → Ahead (λ i j. i < j) o → Ahead (λ a b. HappensBefore run b a → ⊥) zs → Drawn run zs o
  drawn [] [] h l s a = refl
  drawn [] (y ∷ o) h l s a = absurd (let e = h y in omega (arith, e, times-same y o))
  drawn (x ∷ zs) o h l s a =
      let p = found x o (omega (arith, h x, times-same x zs)) in
      let rest = SameTimes-without x zs p.0 p.1 o h p.2 in
      let s' : Ahead (λ i j. i < j) (p.0 ++ x ∷ p.1) = subst (λ l. Ahead (λ i j. i < j) l) p.2 s in
      let before : Each (λ k. (k < x) × (HappensBefore run k x → ⊥)) p.0 =
      Each-both _ _ p.0 (Ahead-middle _ p.0 x p.1 s') (Each-left _ p.0 p.1 (Each-from_times (λ k. HappensBefore run k x → ⊥) zs (p.0 ++ p.1) rest a.0)) in
      (p.0, p.1, p.2, Each-weaker _ _ (λ k c. independent_steps run k x c.0 c.1 (none k x l.0)) p.0 before, drawn zs (p.0 ++ p.1) rest l.1 (Ahead-without _ p.0 x p.1 s') a.1)

-- a number that stands in the list has a place there
place_of : (k : ℕ) (xs : List ℕ) → 0 < times k xs → (p : ℕ) × (p < length xs) × (get_or xs p 0 ≡ k)
place_of k [] h = absurd (omega arith)
place_of k (x ∷ xs) h =
    elim (ℕ_discrete x k) [
      | yes e ↦ (0, omega arith, e)
      | no ne ↦ later k x xs (place_of k xs (still k x xs ne h))
    ]
  where
    later : (k x : ℕ) (xs : List ℕ) → (p : ℕ) × (p < length xs) × (get_or xs p 0 ≡ k) → (p : ℕ) × (p < length (x ∷ xs)) × (get_or (x ∷ xs) p 0 ≡ k)
    later k x xs p = (suc p.0, omega (arith, p.1), p.2)

pub times-places : (k a n : ℕ) → a ≤ k → k < a + n → 0 < times k (range_with_len a n)
times-places k a zero low high = absurd (omega arith)
times-places k a (suc n) low high =
    elim (ℕ_discrete a k) [
      | yes e ↦ let t = eq-eqb a k e in rw t (omega arith)
      | no ne ↦ omega (arith, times-places k (a + 1) n (omega arith) (omega arith))
    ]

Each-from_at : (P : ℕ → Type 0) (xs : List ℕ) → ((k : ℕ) → k < length xs → P (get_or xs k 0)) → Each P xs
Each-from_at P [] f = tt
Each-from_at P (x ∷ xs) f = (f 0 (omega arith), Each-from_at P xs (λ k h. f (suc k) (omega arith)))

Ahead-from_pairs : (R : ℕ → ℕ → Type 0) (xs : List ℕ) → ((i j : ℕ) → i < j → j < length xs → R (get_or xs i 0) (get_or xs j 0)) → Ahead R xs
Ahead-from_pairs R [] f = tt
Ahead-from_pairs R (x ∷ xs) f =
    (Each-from_at (R x) xs (λ k h. f 0 (suc k) (omega arith) (omega arith)), Ahead-from_pairs R xs (λ i j lt h. f (suc i) (suc j) (omega arith) (omega arith)))

wakes_along : (f f' g g' : Footprint) → f' ≡ f → g' ≡ g → wakes f g.thread ≡ true → wakes f' g'.thread ≡ true
wakes_along f f' g g' p q w = rw (p, q) w

module _ (run : List Footprint) (o : List ℕ) (r : IsRearrangement run o) where
  same_times : SameTimes o (places (length run))
  same_times k = sym (times_is k o) ∙ sum_by-IsPermutation (λ x. cond (x == k) 1 0) (places (length run)) o r.permutes ∙ times_is k (places (length run))

  within : Each (λ k. k < length run) o
  within =
      Each-from_times (λ k. k < length run) (places (length run)) o (λ k. sym (same_times k))
      (Each-weaker _ _ (λ k c. omega (arith, c)) (places (length run)) (Each-places 0 (length run)))

  keeps_at : (p q : ℕ) → p < q → q < length o → HappensBefore run (get_or o q 0) (get_or o p 0) → ⊥
  keeps_at p q lt h = r.keeps p q 0 lt h

  -- the steps of a run without a race pair run in any rearranged order, to the same end
  pub rearranged_runs : ((i j : ℕ) → j < length run → RacePair run i j → ⊥) → (m : Machine run) (s t : m.State) → Runs m s (places (length run)) t → Runs m s o t
  rearranged_runs none m s t h =
      runs_drawn run m s t o (places (length run))
      (drawn run (length run) none o (places (length run)) same_times within (Ahead-places 0 (length run)) (Ahead-from_pairs _ o keeps_at))
      h

  step_is : (p : ℕ) → p < length o → step_at (map (step_at run) o) p ≡ step_at run (get_or o p 0)
  step_is p h = get_or-map (step_at run) o p 0 no_step h

  in_order : (p q : ℕ) → p < length o → HappensBefore run (get_or o p 0) (get_or o q 0) → p < q
  in_order p q hp h =
      elim (cases_order p q) [
        | inl e ↦ absurd (let lt = HappensBefore-before h in let same = ap (λ (k : ℕ). get_or o k 0) e in omega arith)
        | inr c ↦ elim c [ inl lt ↦ lt | inr gt ↦ absurd (keeps_at q p gt hp h) ]
      ]

  carried_edge : {a b : ℕ} → Edge run a b → (p q : ℕ) → p < q → step_at (map (step_at run) o) p ≡ step_at run a → step_at (map (step_at run) o) q ≡ step_at run b → wakes (step_at run a) (thread_at run b) ≡ false → Edge (map (step_at run) o) p q
  carried_edge (in_thread lt same) p q l sp sq asleep = in_thread l (ap (λ f. f.thread) sp ∙ same ∙ sym (ap (λ f. f.thread) sq))
  carried_edge (woken s) p q l sp sq asleep = absurd (both_ways _ asleep s.woken)
  carried_edge (dependent lt d n) p q l sp sq asleep =
      dependent l (rw (sp, sq) d)
      (λ c. n (record {
        apart = λ e. c.apart (ap (λ f. f.thread) sp ∙ e ∙ sym (ap (λ f. f.thread) sq));
        race = rw (sp, sq) at c.race;
        unsynced = λ s. both_ways _ asleep s.woken;
      }))

  carried_one : {a b : ℕ} → Edge run a b → (p q : ℕ) → p < length o → q < length o → get_or o p 0 ≡ a → get_or o q 0 ≡ b → HappensBefore (map (step_at run) o) p q
  carried_one {a} {b} e p q hp hq ep eq =
      let sp : step_at (map (step_at run) o) p ≡ step_at run a = step_is p hp ∙ ap (step_at run) ep in
      let sq : step_at (map (step_at run) o) q ≡ step_at run b = step_is q hq ∙ ap (step_at run) eq in
      let h : HappensBefore run (get_or o p 0) (get_or o q 0) = rw (ep, eq) (edge e) in
      let lt : p < q = in_order p q hp h in
      elim (cases_Bool (wakes (step_at run a) (thread_at run b))) [
        | inl w ↦ woken_before (map (step_at run) o) p q lt (wakes_along _ _ _ _ sp sq w)
        | inr asleep ↦ edge (carried_edge e p q lt sp sq asleep)
      ]

  -- what happens before in the record happens before in the rearranged order
  carried : {a b : ℕ} → HappensBefore run a b → (p q : ℕ) → p < length o → q < length o → get_or o p 0 ≡ a → get_or o q 0 ≡ b → HappensBefore (map (step_at run) o) p q
  carried (edge e) p q hp hq ep eq = carried_one e p q hp hq ep eq
  carried (chain {j = c} f g) p q hp hq ep eq =
      let low : c < get_or o q 0 = rw eq (HappensBefore-before g) in
      let high : get_or o q 0 < length run = Each-at _ o within q 0 hq in
      let at' = place_of c o (rw (same_times c) (times-places c 0 (length run) (omega arith) (omega arith))) in
      chain (carried f p at'.0 hp at'.1 ep at'.2) (carried g at'.0 q at'.1 hq at'.2 eq)

  -- so no two steps of the rearranged order are a race pair
  pub none_in_rearranged : ((i j : ℕ) → j < length run → RacePair run i j → ⊥) → (p q : ℕ) → q < length o → RacePair (map (step_at run) o) p q → ⊥
  none_in_rearranged none p q hq c =
      let lt : p < q = c.before in
      let hp : p < length o = omega arith in
      let sp = step_is p hp in
      let sq = step_is q hq in
      let apart : thread_at run (get_or o p 0) ≢ thread_at run (get_or o q 0) = λ e. c.races.apart (ap (λ f. f.thread) sp ∙ e ∙ sym (ap (λ f. f.thread) sq)) in
      let race : IsTrue (some_race (step_at run (get_or o p 0)).accesses (step_at run (get_or o q 0)).accesses) = rw (sp, sq) at c.races.race in
      let forth : HappensBefore run (get_or o p 0) (get_or o q 0) → ⊥ = λ h. c.unordered (carried h p q hp hq refl refl) in
      let back : HappensBefore run (get_or o q 0) (get_or o p 0) → ⊥ = keeps_at p q lt hq in
      elim (cases_order (get_or o p 0) (get_or o q 0)) [
        | inl e ↦ apart (ap (thread_at run) e)
        | inr d ↦ elim d [
          | inl less ↦ none (get_or o p 0) (get_or o q 0) (Each-at _ o within q 0 hq) (record {
            before = less;
            races = record { apart = apart; race = race; unsynced = λ s. forth (edge (woken s)) };
            unordered = forth;
          })
          | inr more ↦ none (get_or o q 0) (get_or o p 0) (Each-at _ o within p 0 hp) (record {
            before = more;
            races = record {
              apart = λ e. apart (sym e);
              race = some_race_sym (step_at run (get_or o p 0)).accesses (step_at run (get_or o q 0)).accesses race;
              unsynced = λ s. back (edge (woken s));
            };
            unordered = back;
          })
        ]
      ]

-- where a run has no race pair, no step is reported behind its predecessor
pub none_reported : (run : List Footprint) → ((i j : ℕ) → j < length run → RacePair run i j → ⊥) → (p : ℕ) → suc p < length run → IsReported run p (suc p) → ⊥
none_reported run none p h r =
    none p (suc p) h (reported_pair run p (suc p) (omega arith) r (λ b. elim (last_edge b) [
      | inl e ↦ reported_edge run p (suc p) r e
      | inr t ↦ absurd (let low = HappensBefore-before t.1 in let high = Edge-before t.2 in omega arith)
    ]))

-- so such a run goes in any rearranged order
pub rearranged_order_runs : EveryOrderRuns
rearranged_order_runs run o r none m s t h = rearranged_runs run o r none m s t h
