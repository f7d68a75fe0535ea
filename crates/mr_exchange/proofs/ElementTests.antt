-- Elements of lists: in front of others, of a list that a function made, and those for which a fact or a test holds.
use Rattle.mr_exchange.proofs.Common.{◌≡◌, sym, ap, ◌∙◌, subst, List, [], ◌∷◌, ◌++◌, map, ◌⊎◌, inl, inr, Bool, false, Any, Contains, list_any, or_parts, Contains-append_cases, Contains-append_left, Contains-append_right, Contains-push, Contains-nil, Contains-one}

-- ---- one element in front

-- the first element is one
pub here : {A : Type 0} (x : A) (xs : List A) → Contains (x ∷ xs) x
here x xs = Contains-append_left (x ∷ []) xs x (Contains-push [] x)

-- an element of the rest is one
pub there : {A : Type 0} (x : A) (xs : List A) (y : A) → Contains xs y → Contains (x ∷ xs) y
there x xs y h = Contains-append_right (x ∷ []) xs y h

-- and there is no other
pub front_cases : {A : Type 0} (x : A) (xs : List A) (y : A) → Contains (x ∷ xs) y → (x ≡ y) ⊎ Contains xs y
front_cases x xs y h = elim (Contains-append_cases (x ∷ []) xs y h) [ inl k ↦ inl (Contains-one x y k) | inr k ↦ inr k ]

-- ---- each element changed

-- what the function gives for an element is in the new list
pub in_map : {A B : Type 0} (f : A → B) (xs : List A) (x : A) → Contains xs x → Contains (map f xs) (f x)
in_map f [] x h = absurd (Contains-nil x h)
in_map f (y ∷ xs) x h =
    elim (front_cases y xs x h) [
      | inl e ↦ subst (λ z. Contains (f y ∷ map f xs) (f z)) e (here (f y) (map f xs))
      | inr k ↦ there (f y) (map f xs) (f x) (in_map f xs x k)
    ]

-- and nothing else
pub from_map : {A B : Type 0} (f : A → B) (xs : List A) (y : B) → Contains (map f xs) y → (x : A) × Contains xs x × (f x ≡ y)
from_map f [] y h = absurd (Contains-nil y h)
from_map f (x ∷ xs) y h =
    elim (front_cases (f x) (map f xs) y h) [
      | inl e ↦ (x, here x xs, e)
      | inr k ↦ let r = from_map f xs y k in (r.0, there x xs r.0 r.1, r.2)
    ]

-- ---- facts of elements

-- some element is so, where this one is
pub any_from : {A : Type 0} (P : A → Type 0) (xs : List A) (x : A) → Contains xs x → P x → Any P xs
any_from P xs x c p = (c.0, x, c.1, c.2, p)

-- the element that is so
pub any_element : {A : Type 0} (P : A → Type 0) (xs : List A) → Any P xs → (x : A) × Contains xs x × P x
any_element P xs h = (h.1, (h.0, h.2, h.3), h.4)

-- the last element, under another name
pub last_is : {A : Type 0} (xs : List A) (x y : A) → x ≡ y → Contains (xs ++ x ∷ []) y
last_is xs x y e = subst (Contains (xs ++ x ∷ [])) e (Contains-push xs x)

-- what passes no test at all fails it at each element
pub none_passes : {A : Type 0} (test : A → Bool) (xs : List A) → list_any test xs ≡ false → (x : A) → Contains xs x → test x ≡ false
none_passes test [] h x c = absurd (Contains-nil x c)
none_passes test (y ∷ xs) h x c =
    let parts = or_parts (test y) (list_any test xs) h in
    elim (front_cases y xs x c) [
      | inl e ↦ ap test (sym e) ∙ parts.0
      | inr k ↦ none_passes test xs parts.1 x k
    ]
