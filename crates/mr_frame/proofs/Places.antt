-- Lists by their positions, storage of locals, and what a function of a well-formed program keeps.
use Rattle.mr_frame.proofs.Common.{◌≡◌, ℕ, ◌<◌, refl, sym, ap, ◌∙◌, subst, arith, List, [], ◌∷◌, length, Bool, true, false, inl, inr, Option, Some, None, cases_eq, and_parts, and_from, or_parts, slice_get_cases, length-set, slice_get, slice_set, ◌==◌, is_some, list_all, list_any, LocalName, Pointer, with_each, has_storage, eq_test}
use Rattle.std.proofs.lemmas.Bool.{both_ways}
use Rattle.std.specs.Option.{option_and_then}
use Rattle.mr_plan.proofs.Positions.{set_here}
use Rattle.mr_base.proofs.Lists.{set_there}

pub none_behind : {A : Type 0} (xs : List A) (i : ℕ) → i ≡ length xs → slice_get xs i ≡ None
none_behind xs i e = elim (slice_get_cases xs i).1 [ inl s ↦ absurd (let lt = s.1 in omega arith) | inr none ↦ none.1 ]

-- ---- tests

-- each local's number is below a bound
abbrev pub AllWithin : ℕ → List LocalName → Type 0
AllWithin n [] = Unit {0}
AllWithin n (x ∷ xs) = (x.0 < n) × AllWithin n xs

-- ---- storage

abbrev is_there : Option (Option Pointer) → Bool
is_there o = is_some (option_and_then (λ s. s) o)

there_within : (locals : List (Option Pointer)) (i : ℕ) → is_there (slice_get locals i) ≡ true → i < length locals
there_within locals i h = elim (slice_get_cases locals i).1 [ inl s ↦ s.1 | inr none ↦ absurd (by_none (ap is_there (sym none.1) ∙ h)) ]
  where
    by_none : false ≡ true → ⊥
    by_none e = cc

-- a local that has storage
pub storage_there : (locals : List (Option Pointer)) (x : LocalName) → has_storage locals x ≡ true → (p : Pointer) × (slice_get locals x.0 ≡ Some (Some p))
storage_there locals x h = by_entry (slice_get locals x.0) refl h
  where
    by_entry : (o : Option (Option Pointer)) → slice_get locals x.0 ≡ o → is_there o ≡ true → (p : Pointer) × (slice_get locals x.0 ≡ Some (Some p))
    by_entry None e k = absurd (cc)
    by_entry (Some None) e k = absurd (cc)
    by_entry (Some (Some p)) e k = (p, e)

-- it has storage still, where some local gets storage
pub storage_stays : (locals : List (Option Pointer)) (x : ℕ) (p : Pointer) (y : LocalName) → has_storage locals y ≡ true → has_storage (slice_set locals x (Some p)) y ≡ true
storage_stays locals x p y h = elim (cases_eq y.0 x) [
  | inl e ↦ ap is_there (ap (slice_get (slice_set locals x (Some p))) e ∙ set_here locals x (Some p) (subst (λ k. k < length locals) e (there_within locals y.0 h)))
  | inr d ↦ ap is_there (set_there locals x y.0 (Some p) d) ∙ h
]

-- and where another local gets storage or loses it
pub storage_apart : (locals : List (Option Pointer)) (x : ℕ) (s : Option Pointer) (y : LocalName) → (y.0 == x) ≡ false → has_storage locals y ≡ true → has_storage (slice_set locals x s) y ≡ true
storage_apart locals x s y d h = ap is_there (set_there locals x y.0 s (λ e. both_ways (y.0 == x) d (eq_test y.0 x e))) ∙ h

-- the same of several
pub all_stay : (locals : List (Option Pointer)) (x : ℕ) (p : Pointer) (ys : List LocalName) → list_all (has_storage locals) ys ≡ true → list_all (has_storage (slice_set locals x (Some p))) ys ≡ true
all_stay locals x p [] h = refl
all_stay locals x p (y ∷ ys) h =
    let parts = and_parts (has_storage locals y) (list_all (has_storage locals) ys) h in
    and_from _ _ (storage_stays locals x p y parts.0) (all_stay locals x p ys parts.1)

pub all_apart : (locals : List (Option Pointer)) (x : ℕ) (s : Option Pointer) (ys : List LocalName) → list_any (λ (y : LocalName). y.0 == x) ys ≡ false → list_all (has_storage locals) ys ≡ true → list_all (has_storage (slice_set locals x s)) ys ≡ true
all_apart locals x s [] d h = refl
all_apart locals x s (y ∷ ys) d h =
    let parts = and_parts (has_storage locals y) (list_all (has_storage locals) ys) h in
    let neither = or_parts (y.0 == x) (list_any (λ (z : LocalName). z.0 == x) ys) d in
    and_from _ _ (storage_apart locals x s y neither.0 parts.0) (all_apart locals x s ys neither.1 parts.1)

-- ---- a new frame's storage

pub each_stays : (xs : List LocalName) (locals : List (Option Pointer)) (ps : List Pointer) (y : LocalName) → has_storage locals y ≡ true → has_storage (with_each locals xs ps) y ≡ true
each_stays [] locals ps y h = h
each_stays (x ∷ xs) locals [] y h = h
each_stays (x ∷ xs) locals (p ∷ ps) y h = each_stays xs (slice_set locals x.0 (Some p)) ps y (storage_stays locals x.0 p y h)

pub length-with_each : (xs : List LocalName) (locals : List (Option Pointer)) (ps : List Pointer) → length (with_each locals xs ps) ≡ length locals
length-with_each [] locals ps = refl
length-with_each (x ∷ xs) locals [] = refl
length-with_each (x ∷ xs) locals (p ∷ ps) = length-with_each xs (slice_set locals x.0 (Some p)) ps ∙ length-set locals x.0 (Some p)

-- each local that is within gets storage
pub each_has : (xs : List LocalName) (locals : List (Option Pointer)) (ps : List Pointer) → length xs ≡ length ps → AllWithin (length locals) xs → list_all (has_storage (with_each locals xs ps)) xs ≡ true
each_has [] locals ps same all = refl
each_has (x ∷ xs) locals [] same all = absurd (omega arith)
each_has (x ∷ xs) locals (p ∷ ps) same all =
    let here : has_storage (slice_set locals x.0 (Some p)) x ≡ true = ap is_there (set_here locals x.0 (Some p) all.0) in
    and_from _ _ (each_stays xs (slice_set locals x.0 (Some p)) ps x here)
    (each_has xs (slice_set locals x.0 (Some p)) ps (omega arith) (subst (λ n. AllWithin n xs) (sym (length-set locals x.0 (Some p))) all.1))
