-- Texts that are held one after another: how one is added.
use Rattle.mr_ast.proofs.Common.{◌≡◌, ◌≢◌, ℕ, zero, suc, ◌+◌, true, false, List, [], ◌∷◌, ◌++◌, length, slice_get, Some, refl, sym, ap, arith, inl, inr, bytes_eq, if◌then◌else◌, list_any, Texts}
use Rattle.std.proofs.Common.{◌≤◌, ◌||◌, length-append}
use Rattle.std.proofs.lemmas.Bool.{false_from_ne_true}
use Rattle.std.proofs.lemmas.Slice.Eq.{bytes_eq-Decides}
use Rattle.mr_ast.specs.Names.{Adds}
use Rattle.mr_ast.specs.Scope.{with_text}

-- a text that stands at some place is there
pub any_first : (t : List ℕ) (ts : Texts) (n : ℕ) → slice_get ts n ≡ Some t → list_any (bytes_eq t) ts ≡ true
any_first t [] n here = absurd cc
any_first t (x ∷ xs) zero here = let is : bytes_eq t x ≡ true = (bytes_eq-Decides t x).1 cc in rw is refl
any_first t (x ∷ xs) (suc n) here = rw (any_first t xs n here) (elim (bytes_eq t x) as (λ b. (b || true) ≡ true) [ true ↦ refl | false ↦ refl ])

-- one that stands at none isn't
pub any_none : (t : List ℕ) (ts : Texts) → ((k : ℕ) → slice_get ts k ≢ Some t) → list_any (bytes_eq t) ts ≡ false
any_none t [] absent = refl
any_none t (x ∷ xs) absent =
    let differ : bytes_eq t x ≡ false = false_from_ne_true (bytes_eq t x) (λ e. absent 0 (ap Some (sym ((bytes_eq-Decides t x).0 e)))) in
    rw (differ, any_none t xs (λ k. absent (suc k))) refl

-- a text stands at the end once it was added, unless it was there
pub with_text-Adds : (old : Texts) (t : List ℕ) (new : Texts) (n : ℕ) → Adds old t new n → new ≡ with_text old t
with_text-Adds old t new n (inl (same, first)) = let there = any_first t old n first.here in rw there same
with_text-Adds old t new n (inr (missing, new_is, last)) = let none = any_none t old missing in rw none new_is

-- and there is at most one more then
pub length-with_text : (names : Texts) (t : List ℕ) → length (with_text names t) ≤ length names + 1
length-with_text names t =
    elim (list_any (bytes_eq t) names) as (λ b. length (if b then names else names ++ t ∷ []) ≤ length names + 1) [ true ↦ omega arith | false ↦ omega (arith, length-append names (t ∷ [])) ]
