-- What is seen of lists of statuses: who waits, and what changes where two lists are changed alike.
use Rattle.mr_exchange.proofs.Common.{◌≡◌, ◌≢◌, ℕ, zero, suc, ◌+◌, refl, sym, ap, ◌∙◌, subst, List, [], ◌∷◌, ◌++◌, map, length, arith, ◌⊎◌, inl, inr, Option, Some, None, Bool, true, false, cond, Contains, ◌==◌, slice_get, slice_set, option_map, cases_eq, eq-eqb, eqb-true, ne_eqb, slice_get_past, Status, Enabled, OnJoin, OnLock, Ended, any_waiting, joiners, on_join, on_lock, over, wake, set_there}
use Rattle.std.proofs.lemmas.Option.{slice_get-map}
use Rattle.mr_start.proofs.PlanMemoryMoves.{IsMove}
use Rattle.mr_exchange.proofs.ElementTests.{here, there}
use Rattle.mr_exchange.proofs.PushedLists.{push_here, push_there, set_same}

-- ---- one status

-- who waits for a lock has this status
pub waits_lock : (l : ℕ) (o : Option Status) → on_lock l o ≡ true → o ≡ Some (OnLock l)
waits_lock l None h = absurd (cc)
waits_lock l (Some Enabled) h = absurd (cc)
waits_lock l (Some (OnJoin k)) h = absurd (cc)
waits_lock l (Some (OnLock k)) h = ap (λ i. Some (OnLock i)) (eqb-true k l h)
waits_lock l (Some Ended) h = absurd (cc)

-- a thread that waits for lock l waits for lock k where they are one, which is then written
pub lock_status : (k l : ℕ) (Written : Type 0) → (k ≡ l → Written) → (on_lock k (Some (OnLock l)) ≡ false) ⊎ Written
lock_status k l Written w = elim (cases_eq k l) [ inl e ↦ inr (w e) | inr d ↦ inl (ne_eqb l k (λ e. d (sym e))) ]

-- the same of the end of a thread
pub join_status : (k l : ℕ) (Written : Type 0) → (k ≡ l → Written) → (on_join k (Some (OnJoin l)) ≡ false) ⊎ Written
join_status k l Written w = elim (cases_eq k l) [ inl e ↦ inr (w e) | inr d ↦ inl (ne_eqb l k (λ e. d (sym e))) ]

-- what is seen of a status by its three views is the status
pub same_status : (f g : Option Status) → over f ≡ over g → ((l : ℕ) → on_lock l f ≡ on_lock l g) → ((u : ℕ) → on_join u f ≡ on_join u g) → f ≡ g
same_status None None o l j = refl
same_status None (Some Enabled) o l j = cc
same_status None (Some (OnJoin k)) o l j = cc
same_status None (Some (OnLock k)) o l j = cc
same_status None (Some Ended) o l j = cc
same_status (Some Enabled) None o l j = cc
same_status (Some Enabled) (Some Enabled) o l j = refl
same_status (Some Enabled) (Some (OnJoin k)) o l j = let e : false ≡ true = j k ∙ eq-eqb k k refl in cc
same_status (Some Enabled) (Some (OnLock k)) o l j = let e : false ≡ true = l k ∙ eq-eqb k k refl in cc
same_status (Some Enabled) (Some Ended) o l j = cc
same_status (Some (OnJoin i)) None o l j = cc
same_status (Some (OnJoin i)) (Some Enabled) o l j = let e : true ≡ false = sym (eq-eqb i i refl) ∙ j i in cc
same_status (Some (OnJoin i)) (Some (OnJoin k)) o l j = ap (λ x. Some (OnJoin x)) (sym (eqb-true k i (sym (j i) ∙ eq-eqb i i refl)))
same_status (Some (OnJoin i)) (Some (OnLock k)) o l j = let e : true ≡ false = sym (eq-eqb i i refl) ∙ j i in cc
same_status (Some (OnJoin i)) (Some Ended) o l j = cc
same_status (Some (OnLock i)) None o l j = cc
same_status (Some (OnLock i)) (Some Enabled) o l j = let e : true ≡ false = sym (eq-eqb i i refl) ∙ l i in cc
same_status (Some (OnLock i)) (Some (OnJoin k)) o l j = let e : true ≡ false = sym (eq-eqb i i refl) ∙ l i in cc
same_status (Some (OnLock i)) (Some (OnLock k)) o l j = ap (λ x. Some (OnLock x)) (sym (eqb-true k i (sym (l i) ∙ eq-eqb i i refl)))
same_status (Some (OnLock i)) (Some Ended) o l j = cc
same_status (Some Ended) None o l j = cc
same_status (Some Ended) (Some Enabled) o l j = cc
same_status (Some Ended) (Some (OnJoin k)) o l j = cc
same_status (Some Ended) (Some (OnLock k)) o l j = cc
same_status (Some Ended) (Some Ended) o l j = refl

-- ---- who waits

-- where the same threads wait for a lock, it is waited for in both or in neither
pub same_waiting : (l : ℕ) (xs ys : List Status) → ((k : ℕ) → on_lock l (slice_get xs k) ≡ on_lock l (slice_get ys k)) → any_waiting l xs ≡ any_waiting l ys
same_waiting l [] [] h = refl
same_waiting l [] (y ∷ ys) h = same_waiting l [] ys (λ k. h (suc k)) ∙ ap (λ b. cond b true (any_waiting l ys)) (h zero)
same_waiting l (x ∷ xs) [] h = ap (λ b. cond b true (any_waiting l xs)) (h zero) ∙ same_waiting l xs [] (λ k. h (suc k))
same_waiting l (x ∷ xs) (y ∷ ys) h =
    ap (λ b. cond b true (any_waiting l xs)) (h zero)
    ∙ ap (λ w. cond (on_lock l (Some y)) true w) (same_waiting l xs ys (λ k. h (suc k)))

-- where the same threads wait for an end, they are the same in order
pub same_joiners : (t i : ℕ) (xs ys : List Status) → ((k : ℕ) → on_join t (slice_get xs k) ≡ on_join t (slice_get ys k)) → joiners t i xs ≡ joiners t i ys
same_joiners t i [] [] h = refl
same_joiners t i [] (y ∷ ys) h =
    same_joiners t (suc i) [] ys (λ k. h (suc k)) ∙ ap (λ b. cond b (i ∷ joiners t (suc i) ys) (joiners t (suc i) ys)) (h zero)
same_joiners t i (x ∷ xs) [] h =
    ap (λ b. cond b (i ∷ joiners t (suc i) xs) (joiners t (suc i) xs)) (h zero) ∙ same_joiners t (suc i) xs [] (λ k. h (suc k))
same_joiners t i (x ∷ xs) (y ∷ ys) h =
    ap (λ b. cond b (i ∷ joiners t (suc i) xs) (joiners t (suc i) xs)) (h zero)
    ∙ ap (λ w. cond (on_join t (Some y)) (i ∷ w) w) (same_joiners t (suc i) xs ys (λ k. h (suc k)))

-- who waits for the end of t is listed
pub joiner_listed : (t i : ℕ) (xs : List Status) (k : ℕ) → on_join t (slice_get xs k) ≡ true → Contains (joiners t i xs) (i + k)
joiner_listed t i [] k h = absurd (cc)
joiner_listed t i (x ∷ xs) zero h =
    let e : i ≡ i + 0 = omega arith in
    subst (λ b. Contains (cond b (i ∷ joiners t (suc i) xs) (joiners t (suc i) xs)) (i + 0)) (sym h)
    (subst (Contains (i ∷ joiners t (suc i) xs)) e (here i (joiners t (suc i) xs)))
joiner_listed t i (x ∷ xs) (suc k) h =
    let e : suc i + k ≡ i + suc k = omega arith in
    let r : Contains (joiners t (suc i) xs) (i + suc k) = subst (Contains (joiners t (suc i) xs)) e (joiner_listed t (suc i) xs k h) in
    elim (on_join t (Some x)) as (λ b. Contains (cond b (i ∷ joiners t (suc i) xs) (joiners t (suc i) xs)) (i + suc k)) [
      | true ↦ there i (joiners t (suc i) xs) (i + suc k) r
      | false ↦ r
    ]

-- ---- who is woken

-- the statuses behind the end of t
abbrev pub after_end : ℕ → List Status → List Status
after_end t xs = map (wake t) (slice_set xs t Ended)

-- nobody else ends
pub woken_over : (t : ℕ) (o : Option Status) → over (option_map (wake t) o) ≡ over o
woken_over t None = refl
woken_over t (Some Enabled) = refl
woken_over t (Some (OnJoin k)) = elim (k == t) as (λ b. over (Some (cond b Enabled (OnJoin k))) ≡ Some false) [ true ↦ refl | false ↦ refl ]
woken_over t (Some (OnLock k)) = refl
woken_over t (Some Ended) = refl

-- who waits for a lock waits for it still
pub woken_lock : (t m : ℕ) (o : Option Status) → on_lock m (option_map (wake t) o) ≡ on_lock m o
woken_lock t m None = refl
woken_lock t m (Some Enabled) = refl
woken_lock t m (Some (OnJoin k)) = elim (k == t) as (λ b. on_lock m (Some (cond b Enabled (OnJoin k))) ≡ false) [ true ↦ refl | false ↦ refl ]
woken_lock t m (Some (OnLock k)) = refl
woken_lock t m (Some Ended) = refl

-- nobody waits for t any more
pub woken_join : (t : ℕ) (o : Option Status) → on_join t (option_map (wake t) o) ≡ false
woken_join t None = refl
woken_join t (Some Enabled) = refl
woken_join t (Some (OnJoin k)) = by_test (k == t) refl
  where
    by_test : (b : Bool) → (k == t) ≡ b → on_join t (Some (cond b Enabled (OnJoin k))) ≡ false
    by_test true e = refl
    by_test false e = e
woken_join t (Some (OnLock k)) = refl
woken_join t (Some Ended) = refl

-- who waits for another thread waits still
pub kept_join : (t u : ℕ) → u ≢ t → (o : Option Status) → on_join u (option_map (wake t) o) ≡ on_join u o
kept_join t u d None = refl
kept_join t u d (Some Enabled) = refl
kept_join t u d (Some (OnJoin k)) = by_test (k == t) refl
  where
    by_test : (b : Bool) → (k == t) ≡ b → on_join u (Some (cond b Enabled (OnJoin k))) ≡ (k == u)
    by_test true e = sym (ne_eqb k u (λ c. d (sym c ∙ eqb-true k t e)))
    by_test false e = refl
kept_join t u d (Some (OnLock k)) = refl
kept_join t u d (Some Ended) = refl

-- who is enabled behind the end of t was enabled, or waited for it
pub woken_enabled : (t : ℕ) (o : Option Status) → option_map (wake t) o ≡ Some Enabled → (o ≡ Some Enabled) ⊎ (on_join t o ≡ true)
woken_enabled t None h = absurd (cc)
woken_enabled t (Some Enabled) h = inl refl
woken_enabled t (Some (OnJoin k)) h = by_test (k == t) refl h
  where
    by_test : (b : Bool) → (k == t) ≡ b → Some (cond b Enabled (OnJoin k)) ≡ Some Enabled → (Some (OnJoin k) ≡ Some Enabled) ⊎ ((k == t) ≡ true)
    by_test true e r = inr e
    by_test false e r = absurd (cc)
woken_enabled t (Some (OnLock k)) h = absurd (cc)
woken_enabled t (Some Ended) h = absurd (cc)

-- another thread behind the end of t
pub behind_end : (t : ℕ) (xs : List Status) (k : ℕ) → k ≢ t → slice_get (after_end t xs) k ≡ option_map (wake t) (slice_get xs k)
behind_end t xs k d = slice_get-map (wake t) (slice_set xs t Ended) k ∙ ap (option_map (wake t)) (set_there xs t k Ended d)

-- t itself
pub ended_itself : (t : ℕ) (xs : List Status) (old : Status) → slice_get xs t ≡ Some old → slice_get (after_end t xs) t ≡ Some Ended
ended_itself t xs old h = slice_get-map (wake t) (slice_set xs t Ended) t ∙ ap (option_map (wake t)) (set_same xs t old Ended h)

-- ---- two lists changed alike

-- one element is replaced in both, at a place that is written
pub one_place : {A : Type 0} (Written : Type 0) (xs ys : List A) (i : ℕ) (old old' new : A) (k : ℕ) → slice_get xs i ≡ Some old → slice_get ys i ≡ Some old' → (k ≡ i → Written)
    → IsMove (slice_get xs k) (slice_get (slice_set xs i new) k) (slice_get ys k) (slice_get (slice_set ys i new) k) Written
one_place Written xs ys i old old' new k hx hy w =
    elim (cases_eq k i) [
      | inl e ↦ inr (ap (slice_get (slice_set xs i new)) e ∙ set_same xs i old new hx ∙ sym (ap (slice_get (slice_set ys i new)) e ∙ set_same ys i old' new hy), w e)
      | inr d ↦ inl (set_there xs i k new d, set_there ys i k new d)
    ]

-- one status, which was the same in both, is replaced in both: a view of it shows the same as before, or it is written
pub one_status : {V : Type 0} (view : Option Status → V) (Written : Type 0) (xs ys : List Status) (i : ℕ) (old new : Status) (k : ℕ) → slice_get xs i ≡ Some old → slice_get ys i ≡ Some old
    → (k ≡ i → (view (Some new) ≡ view (Some old)) ⊎ Written)
    → IsMove (view (slice_get xs k)) (view (slice_get (slice_set xs i new) k)) (view (slice_get ys k)) (view (slice_get (slice_set ys i new) k)) Written
one_status view Written xs ys i old new k hx hy same =
    elim (cases_eq k i) [
      | inl e ↦
          let nx : view (slice_get (slice_set xs i new) k) ≡ view (Some new) = ap view (ap (slice_get (slice_set xs i new)) e ∙ set_same xs i old new hx) in
          let ny : view (slice_get (slice_set ys i new) k) ≡ view (Some new) = ap view (ap (slice_get (slice_set ys i new)) e ∙ set_same ys i old new hy) in
          elim (same e) [
            | inl s ↦ inl (nx ∙ s ∙ ap view (sym hx ∙ sym (ap (slice_get xs) e)), ny ∙ s ∙ ap view (sym hy ∙ sym (ap (slice_get ys) e)))
            | inr w ↦ inr (nx ∙ sym ny, w)
          ]
      | inr d ↦ inl (ap view (set_there xs i k new d), ap view (set_there ys i k new d))
    ]

-- both get one status more, and are as long
pub one_more : {V : Type 0} (view : Option Status → V) (Written : Type 0) (xs ys : List Status) (new : Status) (k : ℕ) → length xs ≡ length ys
    → (k ≡ length xs → (view (Some new) ≡ view None) ⊎ Written)
    → IsMove (view (slice_get xs k)) (view (slice_get (xs ++ new ∷ []) k)) (view (slice_get ys k)) (view (slice_get (ys ++ new ∷ []) k)) Written
one_more view Written xs ys new k e made =
    elim (cases_eq k (length xs)) [
      | inl d ↦
          let nx : slice_get (xs ++ new ∷ []) k ≡ Some new = ap (slice_get (xs ++ new ∷ [])) d ∙ push_here xs new in
          let ny : slice_get (ys ++ new ∷ []) k ≡ Some new = ap (slice_get (ys ++ new ∷ [])) (d ∙ e) ∙ push_here ys new in
          let past : slice_get xs k ≡ None = slice_get_past xs k (omega arith) in
          let past' : slice_get ys k ≡ None = slice_get_past ys k (omega arith) in
          elim (made d) [
            | inl s ↦ inl (ap view nx ∙ s ∙ ap view (sym past), ap view ny ∙ s ∙ ap view (sym past'))
            | inr w ↦ inr (ap view (nx ∙ sym ny), w)
          ]
      | inr d ↦ inl (ap view (push_there xs new k d), ap view (push_there ys new k (λ c. d (c ∙ sym e))))
    ]
