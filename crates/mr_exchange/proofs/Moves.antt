-- Steps that move past independent ones, and steps that run without the others.
use Rattle.mr_exchange.proofs.Common.{◌≡◌, ℕ, List, [], ◌∷◌, ◌++◌, Bool, true, false, cond, not, refl, subst, filter, Footprint, step_at, AreIndependent, Machine, Runs}
use Rattle.mr_exchange.proofs.Lists.{Each, Ahead, Each-weaker, Each-filter}

-- zs draws the steps of o one at a time, each from behind steps that are independent of it
abbrev pub Drawn : List Footprint → List ℕ → List ℕ → Type 0
Drawn run [] o = o ≡ []
Drawn run (x ∷ zs) o = (xs : List ℕ) × (ys : List ℕ) × (o ≡ xs ++ x ∷ ys) × Each (λ k. AreIndependent (step_at run k) (step_at run x)) xs × Drawn run zs (xs ++ ys)

module _ (run : List Footprint) (m : Machine run) where
  -- the same steps run from a state that is the same
  pub runs_from_same : (s s' t : m.State) (o : List ℕ) → m.Same s s' → Runs m s o t → Runs m s' o t
  runs_from_same s s' t [] e h = m.same_trans s' s t (m.same_sym s s' e) h
  runs_from_same s s' t (i ∷ o) e h =
      let c = m.carry s s' h.0 i e h.1 in
      (c.0, c.1, runs_from_same h.0 c.0 t o c.2 h.2)

  -- two independent neighbours change places
  pub runs_swapped : (s t : m.State) (i j : ℕ) (o : List ℕ) → AreIndependent (step_at run i) (step_at run j) → Runs m s (i ∷ (j ∷ o)) t → Runs m s (j ∷ (i ∷ o)) t
  runs_swapped s t i j o d h =
      let w = m.swap s h.0 h.2.0 i j d h.1 h.2.1 in
      (w.0, w.2, (w.1, w.3, runs_from_same h.2.0 w.1 t o w.4 h.2.2))

  -- a step moves behind steps that are independent of it
  pub runs_moved_back : (s t : m.State) (i : ℕ) (ys zs : List ℕ) → Each (λ k. AreIndependent (step_at run i) (step_at run k)) ys → Runs m s (i ∷ (ys ++ zs)) t → Runs m s (ys ++ i ∷ zs) t
  runs_moved_back s t i [] zs d h = h
  runs_moved_back s t i (y ∷ ys) zs d h =
      let w = runs_swapped s t i y (ys ++ zs) d.0 h in
      (w.0, w.1, runs_moved_back w.0 t i ys zs d.1 w.2)

  -- a step moves before steps of which it is independent
  pub runs_moved_front : (s t : m.State) (i : ℕ) (xs ys : List ℕ) → Each (λ k. AreIndependent (step_at run k) (step_at run i)) xs → Runs m s (xs ++ i ∷ ys) t → Runs m s (i ∷ (xs ++ ys)) t
  runs_moved_front s t i [] ys d h = h
  runs_moved_front s t i (x ∷ xs) ys d h =
      runs_swapped s t x i (xs ++ ys) d.0 (h.0, h.1, runs_moved_front h.0 t i xs ys d.1 h.2)

  -- the first part of a run leads to a state from which the rest runs
  pub runs_parts : (s t : m.State) (xs ys : List ℕ) → Runs m s (xs ++ ys) t → (u : m.State) × Runs m s xs u × Runs m u ys t
  runs_parts s t [] ys h = (s, m.same_refl s, h)
  runs_parts s t (x ∷ xs) ys h =
      let p = runs_parts h.0 t xs ys h.2 in
      (p.0, (h.0, h.1, p.1), p.2)

  -- and the other way round
  pub runs_joined : (s u t : m.State) (xs ys : List ℕ) → Runs m s xs u → Runs m u ys t → Runs m s (xs ++ ys) t
  runs_joined s u t [] ys h k = runs_from_same u s t ys (m.same_sym s u h) k
  runs_joined s u t (x ∷ xs) ys h k = (h.0, h.1, runs_joined h.0 u t xs ys h.2 k)

  separated_step : (s t : m.State) (x : ℕ) (kept left : List ℕ) (b : Bool) → (b ≡ false → Each (λ k. AreIndependent (step_at run x) (step_at run k)) kept) → Runs m s (x ∷ (kept ++ left)) t → Runs m s (cond b (x ∷ kept) kept ++ cond (not b) (x ∷ left) left) t
  separated_step s t x kept left true d h = h
  separated_step s t x kept left false d h = runs_moved_back s t x kept left (d refl) h

  -- the kept steps run first where each left-out step is independent of the later kept ones
  pub runs_separated : (keep : ℕ → Bool) (s t : m.State) (o : List ℕ) → Ahead (λ a b. keep a ≡ false → keep b ≡ true → AreIndependent (step_at run a) (step_at run b)) o → Runs m s o t → Runs m s (filter keep o ++ filter (λ k. not (keep k)) o) t
  runs_separated keep s t [] d h = h
  runs_separated keep s t (x ∷ o) d h =
      separated_step s t x (filter keep o) (filter (λ k. not (keep k)) o) (keep x)
      (λ e. Each-weaker _ _ (λ k c. c.0 e c.1) (filter keep o) (Each-filter _ keep o d.0))
      (h.0, h.1, runs_separated keep h.0 t o d.1 h.2)

  -- so the kept steps run alone
  pub runs_kept : (keep : ℕ → Bool) (s t : m.State) (o : List ℕ) → Ahead (λ a b. keep a ≡ false → keep b ≡ true → AreIndependent (step_at run a) (step_at run b)) o → Runs m s o t → (u : m.State) × Runs m s (filter keep o) u
  runs_kept keep s t o d h =
      let p = runs_parts s t (filter keep o) (filter (λ k. not (keep k)) o) (runs_separated keep s t o d h) in
      (p.0, p.1)

  -- the steps of o in the order of zs, which draws them out of o one at a time, each from behind independent ones
  pub runs_drawn : (s t : m.State) (zs o : List ℕ) → Drawn run zs o → Runs m s o t → Runs m s zs t
  runs_drawn s t [] o d h = subst (λ l. Runs m s l t) d h
  runs_drawn s t (x ∷ zs) o d h =
      let front = runs_moved_front s t x d.0 d.1 d.3 (subst (λ l. Runs m s l t) d.2 h) in
      (front.0, front.1, runs_drawn front.0 t zs (d.0 ++ d.1) d.4 front.2)
