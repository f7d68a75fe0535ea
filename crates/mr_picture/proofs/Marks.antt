-- Marks that are written one after the other.
use Rattle.mr_picture.proofs.Common.{◌≡◌, ℕ, ◌+◌, ◌-◌, ◌<◌, ◌≤◌, Bool, true, false, List, [], ◌∷◌, ◌++◌, length, get_or, take, map, sym, ap, ◌∙◌, append_assoc, append-nil, filter-append, OnOk, flat_map, filter, range_with_len}
use Rattle.std.proofs.Common.{Result, Ok, Err}
use Rattle.std.proofs.lemmas.Grind.{flat_map-append}
use Rattle.std.proofs.lemmas.List.{take_more, map-append}
use Rattle.mr_picture.proofs.Turns.{one_more}

-- one part more
single : {X Y : Type 0} (f : X → List Y) (x : X) → flat_map f (x ∷ []) ≡ f x
single f x = append-nil (f x)

-- the marks of one element more of a list
pub marks_behind : {X Y Z : Type 0} (g : Y → List Z) (f : X → List Y) (old now next : List Z) (xs : List X) (i : ℕ) (x : X)
    → i < length xs → x ≡ get_or xs i x → now ≡ old ++ flat_map g (flat_map f (take i xs)) → next ≡ now ++ flat_map g (f x)
    → next ≡ old ++ flat_map g (flat_map f (take (i + 1) xs))
marks_behind g f old now next xs i x inside is here more =
    more ∙ ap (λ ys. ys ++ flat_map g (f x)) here ∙ append_assoc old (flat_map g (flat_map f (take i xs))) (flat_map g (f x))
    ∙ ap (λ ys. old ++ ys)
    (sym (flat_map-append g (flat_map f (take i xs)) (f x))
    ∙ ap (λ ys. flat_map g (flat_map f (take i xs) ++ ys)) (sym (single f x))
    ∙ ap (flat_map g) (sym (flat_map-append f (take i xs) (x ∷ [])))
    ∙ ap (λ ys. flat_map g (flat_map f ys)) (ap (λ y. take i xs ++ y ∷ []) is ∙ sym (take_more xs i x inside)))

-- the same of one mark each
pub mark_behind : {X Y Z : Type 0} (g : Y → List Z) (f : X → Y) (old now next : List Z) (xs : List X) (i : ℕ) (x : X)
    → i < length xs → x ≡ get_or xs i x → now ≡ old ++ flat_map g (map f (take i xs)) → next ≡ now ++ g (f x)
    → next ≡ old ++ flat_map g (map f (take (i + 1) xs))
mark_behind g f old now next xs i x inside is here more =
    more ∙ ap (λ ys. ys ++ g (f x)) here ∙ append_assoc old (flat_map g (map f (take i xs))) (g (f x))
    ∙ ap (λ ys. old ++ ys)
    (ap (λ ys. flat_map g (map f (take i xs)) ++ ys) (sym (single g (f x)))
    ∙ sym (flat_map-append g (map f (take i xs)) (f x ∷ []))
    ∙ ap (flat_map g) (sym (map-append f (take i xs) (x ∷ [])))
    ∙ ap (λ ys. flat_map g (map f ys)) (ap (λ y. take i xs ++ y ∷ []) is ∙ sym (take_more xs i x inside)))

-- the marks of one number more
pub row_behind : {Y Z : Type 0} (g : Y → List Z) (f : ℕ → List Y) (old now next : List Z) (a k : ℕ) → a ≤ k
    → now ≡ old ++ flat_map g (flat_map f (range_with_len a (k - a))) → next ≡ now ++ flat_map g (f k)
    → next ≡ old ++ flat_map g (flat_map f (range_with_len a (k + 1 - a)))
row_behind g f old now next a k le here more =
    let ks = range_with_len a (k - a) in
    more ∙ ap (λ ys. ys ++ flat_map g (f k)) here ∙ append_assoc old (flat_map g (flat_map f ks)) (flat_map g (f k))
    ∙ ap (λ ys. old ++ ys)
    (sym (flat_map-append g (flat_map f ks) (f k))
    ∙ ap (λ ys. flat_map g (flat_map f ks ++ ys)) (sym (single f k))
    ∙ ap (flat_map g) (sym (flat_map-append f ks (k ∷ [])))
    ∙ ap (λ ys. flat_map g (flat_map f ys)) (sym (one_more a k le)))

-- ---- marks that are told one by one

pub begun : {Y Z : Type 0} (g : Y → List Z) (old : List Z) → old ≡ old ++ flat_map g []
begun g old = sym (append-nil old)

pub more_marks : {Y Z : Type 0} (g : Y → List Z) (old now next : List Z) (ys zs : List Y) → now ≡ old ++ flat_map g ys
    → next ≡ now ++ flat_map g zs → next ≡ old ++ flat_map g (ys ++ zs)
more_marks g old now next ys zs here more =
    more ∙ ap (λ xs. xs ++ flat_map g zs) here ∙ append_assoc old (flat_map g ys) (flat_map g zs)
    ∙ ap (λ xs. old ++ xs) (sym (flat_map-append g ys zs))

pub more_mark : {Y Z : Type 0} (g : Y → List Z) (old now next : List Z) (ys : List Y) (y : Y) → now ≡ old ++ flat_map g ys
    → next ≡ now ++ g y → next ≡ old ++ flat_map g (ys ++ y ∷ [])
more_mark g old now next ys y here more =
    more_marks g old now next ys (y ∷ []) here (more ∙ ap (λ xs. now ++ xs) (sym (single g y)))

-- the same of the marks of what one number more makes
pub mapped_behind : {X Y Z : Type 0} (g : Y → List Z) (h : X → Y) (f : ℕ → List X) (old now next : List Z) (a k : ℕ) → a ≤ k
    → now ≡ old ++ flat_map g (map h (flat_map f (range_with_len a (k - a)))) → next ≡ now ++ flat_map g (map h (f k))
    → next ≡ old ++ flat_map g (map h (flat_map f (range_with_len a (k + 1 - a))))
mapped_behind g h f old now next a k le here more =
    let ks = range_with_len a (k - a) in
    more_marks g old now next (map h (flat_map f ks)) (map h (f k)) here more
    ∙ ap (λ ys. old ++ flat_map g ys) (sym (map-append h (flat_map f ks) (f k)))
    ∙ ap (λ xs. old ++ flat_map g (map h (flat_map f ks ++ xs))) (sym (single f k))
    ∙ ap (λ xs. old ++ flat_map g (map h xs)) (sym (flat_map-append f ks (k ∷ [])))
    ∙ ap (λ xs. old ++ flat_map g (map h (flat_map f xs))) (sym (one_more a k le))

-- the same of the last ones, where the memory may be used up
pub last_marks : {Y Z T E : Type 0} (g : Y → List Z) (r : Result T E) (old now next : List Z) (ys zs : List Y)
    → now ≡ old ++ flat_map g ys → OnOk r (next ≡ now ++ flat_map g zs) → OnOk r (next ≡ old ++ flat_map g (ys ++ zs))
last_marks g (Ok x) old now next ys zs here more = more_marks g old now next ys zs here more
last_marks g (Err e) old now next ys zs here more = tt

pub last_mark : {Y Z T E : Type 0} (g : Y → List Z) (r : Result T E) (old now next : List Z) (ys : List Y) (y : Y)
    → now ≡ old ++ flat_map g ys → OnOk r (next ≡ now ++ g y) → OnOk r (next ≡ old ++ flat_map g (ys ++ y ∷ []))
last_mark g (Ok x) old now next ys y here more = more_mark g old now next ys y here more
last_mark g (Err e) old now next ys y here more = tt

-- an element that passes a test joins those that do, or stays out
pub passes : {X : Type 0} (p : X → Bool) (xs : List X) (i : ℕ) (x : X) → i < length xs → x ≡ get_or xs i x → p x ≡ true
    → filter p (take (i + 1) xs) ≡ filter p (take i xs) ++ x ∷ []
passes p xs i x inside is e =
    ap (filter p) (take_more xs i x inside ∙ ap (λ y. take i xs ++ y ∷ []) (sym is))
    ∙ filter-append p (take i xs) (x ∷ []) ∙ ap (λ ys. filter p (take i xs) ++ ys) (kept p x e)
  where
    kept : {X : Type 0} (p : X → Bool) (x : X) → p x ≡ true → filter p (x ∷ []) ≡ x ∷ []
    kept p x e = rw e

pub fails : {X : Type 0} (p : X → Bool) (xs : List X) (i : ℕ) (x : X) → i < length xs → x ≡ get_or xs i x → p x ≡ false
    → filter p (take (i + 1) xs) ≡ filter p (take i xs)
fails p xs i x inside is e =
    ap (filter p) (take_more xs i x inside ∙ ap (λ y. take i xs ++ y ∷ []) (sym is))
    ∙ filter-append p (take i xs) (x ∷ []) ∙ ap (λ ys. filter p (take i xs) ++ ys) (left p x e)
    ∙ append-nil (filter p (take i xs))
  where
    left : {X : Type 0} (p : X → Bool) (x : X) → p x ≡ false → filter p (x ∷ []) ≡ []
    left p x e = rw e
