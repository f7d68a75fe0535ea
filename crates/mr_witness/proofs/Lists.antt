-- Lists by their places, and runs in two parts.
use Rattle.mr_witness.proofs.Common.{◌≡◌, ℕ, suc, zero, ◌+◌, ◌-◌, ◌≤◌, refl, sym, ◌∙◌, ap, arith, List, [], ◌∷◌, ◌++◌, map, length, get_or, Bool, true, false, inl, inr, append_assoc, length-append, filter, range_with_len, cases_Bool, Footprint, Entry, Bare, Completed, IllFormedStep, Language, State, Stops, bare, AreLegal, Config, after, feet, foot_of_bare, machine_step, None, Option, Some}
use Rattle.mr_witness.specs.PlanRuns.{foot_from}

map_later : {A : Type 0} (f g : ℕ → A) → ((k : ℕ) → f (k + 1) ≡ g k) → (a n : ℕ) → map f (range_with_len (a + 1) n) ≡ map g (range_with_len a n)
map_later f g same a zero = refl
map_later f g same a (suc n) = λ i. same a i ∷ map_later f g same (a + 1) n i

behind_first : {A : Type 0} (x : A) (xs : List A) (d : A) (k : ℕ) → get_or (x ∷ xs) (k + 1) d ≡ get_or xs k d
behind_first x xs d k = let e : k + 1 ≡ suc k = omega arith in ap (λ n. get_or (x ∷ xs) n d) e

-- a list is what stands at its places
pub map_places : {A : Type 0} (xs : List A) (d : A) → map (λ k. get_or xs k d) (range_with_len 0 (length xs)) ≡ xs
map_places [] d = refl
map_places (x ∷ xs) d = ap (λ l. x ∷ l) (map_later (λ k. get_or (x ∷ xs) k d) (λ k. get_or xs k d) (behind_first x xs d) 0 (length xs) ∙ map_places xs d)

pub map_append : {A B : Type 0} (f : A → B) (xs ys : List A) → map f (xs ++ ys) ≡ map f xs ++ map f ys
map_append f [] ys = refl
map_append f (x ∷ xs) ys = ap (λ l. f x ∷ l) (map_append f xs ys)

-- what passes a test behind a function
pub filter_map : {A B : Type 0} (f : A → B) (p : B → Bool) (xs : List A) → filter p (map f xs) ≡ map f (filter (λ x. p (f x)) xs)
filter_map f p [] = refl
filter_map f p (x ∷ xs) =
    elim (cases_Bool (p (f x))) [
      | inl e ↦ rw e (ap (λ l. f x ∷ l) (filter_map f p xs))
      | inr e ↦ rw e (filter_map f p xs)
    ]

-- ---- runs

pub after_append : {L : Type 0} (step : Language L) (c : Config L) (xs ys : List Entry) → after step c (xs ++ ys) ≡ after step (after step c xs) ys
after_append step c [] ys = refl
after_append step c (x ∷ xs) ys = after_append step (machine_step step c x) xs ys

pub legal_append : {L : Type 0} (step : Language L) (c : Config L) (xs ys : List Entry) → AreLegal step c xs → AreLegal step (after step c xs) ys → AreLegal step c (xs ++ ys)
legal_append step c [] ys h k = k
legal_append step c (x ∷ xs) ys h k = (h.0, legal_append step (machine_step step c x) xs ys h.1 k)

pub feet_append : {L : Type 0} (step : Language L) (c : Config L) (xs ys : List Entry) → feet step c (xs ++ ys) ≡ feet step c xs ++ feet step (after step c xs) ys
feet_append step c [] ys = refl
feet_append step c (x ∷ xs) ys =
    ap (λ l. foot_from step x.thread x.picks c.state ++ l) (feet_append step (machine_step step c x) xs ys)
    ∙ sym (append_assoc (foot_from step x.thread x.picks c.state) (feet step (machine_step step c x) xs) (feet step (after step (machine_step step c x) xs) ys))

one_foot : {L : Type 0} (step : Language L) (b : Bare L) → length (foot_of_bare step b) ≤ 1
one_foot step (Completed n s) = omega arith
one_foot step (Stops v about) = omega arith
one_foot step IllFormedStep = omega arith

one_foot_from : {L : Type 0} (step : Language L) (t : ℕ) (picks : List ℕ) (s : Option (State L)) → length (foot_from step t picks s) ≤ 1
one_foot_from step t picks None = omega arith
one_foot_from step t picks (Some s) = one_foot step (bare step s t picks)

-- a run has a footprint for each entry at most
pub feet_length : {L : Type 0} (step : Language L) (c : Config L) (es : List Entry) → length (feet step c es) ≤ length es
feet_length step c [] = omega arith
feet_length step c (e ∷ es) =
    let rest = feet_length step (machine_step step c e) es in
    let here = one_foot_from step e.thread e.picks c.state in
    let all = length-append (foot_from step e.thread e.picks c.state) (feet step (machine_step step c e) es) in
    omega (arith, rest, here, all)
