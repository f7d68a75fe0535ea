-- The elements of short lists, and of two lists, one behind the other.
use Rattle.mr_plan.proofs.Common.{◌≡◌, subst, sym, List, [], ◌∷◌, ◌++◌, arith, inl, inr, Any, Contains, Contains-append_right, Contains-push_cases}

pub Contains-nil : {A : Type 0} (x : A) → Contains [] x → ⊥
Contains-nil x h = let k = h.1 in omega arith

pub Contains-one : {A : Type 0} (x y : A) → Contains (x ∷ []) y → x ≡ y
Contains-one x y h = elim (Contains-push_cases [] x y h) [ inl k ↦ absurd (Contains-nil y k) | inr e ↦ e ]

pub Any-one : {A : Type 0} (P : A → Type 0) (x : A) → Any P (x ∷ []) → P x
Any-one P x h = subst P (sym (Contains-one x h.1 (h.0, h.2, h.3))) h.4

pub Any-append_right : {A : Type 0} (P : A → Type 0) (xs ys : List A) → Any P ys → Any P (xs ++ ys)
Any-append_right P xs ys h = let c = Contains-append_right xs ys h.1 (h.0, h.2, h.3) in (c.0, h.1, c.1, c.2, h.4)
