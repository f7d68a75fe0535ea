-- What a search finds in a list of pairs that is in order.
use Rattle.std.proofs.Common.{◌≡◌, ℕ, ◌<◌, Bool, true, false, List, length, get_or, Result, Ok, Err, Ordering, Less, Equal, Greater, nat_cmp, refl, sym, ap, ◌∙◌, inl, inr, arith}
use Rattle.std.specs.Prelude.{cond, ◌&&◌, ◌==◌, nat_lt, is_ok}
use Rattle.std.specs.Cmp.{IsTotalOrder}
use Rattle.std.specs.List.{list_any}
use Rattle.std.specs.List.Sorted.{IsBinarySearchResult, IsSearchInRange, IsSorted}
use Rattle.std.specs.Ordering.{is_eq, ordering_then}
use Rattle.std.proofs.lemmas.Bool.Decides.{nat_tests}
use Rattle.std.proofs.lemmas.Cmp.{nat_cmp_total, on_total, then_total}
use Rattle.std.proofs.lemmas.List.Folds.{list_any_at, list_any_none}
use Rattle.std.proofs.lemmas.List.Sorted.{searchable_from_sorted}
use Rattle.mr_base.specs.Pairs.{pair_cmp, same_pair}
use Rattle.mr_base.proofs.Comparisons.{below_or}

pair_total : IsTotalOrder pair_cmp
pair_total = then_total (on_total (λ (x : ℕ × ℕ). x.0) nat_cmp_total) (on_total (λ (x : ℕ × ℕ). x.1) nat_cmp_total)

-- two numbers, and two pairs, are equal where the order finds them equal
same_number : (m n : ℕ) → (m == n) ≡ is_eq (nat_cmp n m)
same_number m n = by (nat_lt n m) (n == m) refl refl
  where
    by : (a b : Bool) → nat_lt n m ≡ a → (n == m) ≡ b → (m == n) ≡ is_eq (nat_cmp n m)
    by true b p q =
        let other : (m == n) ≡ false = grind (arith, nat_tests) in
        other ∙ sym (ap (λ t. is_eq (cond t Less (cond (n == m) Equal Greater))) p)
    by false b p q =
        let turned : (m == n) ≡ b = grind (arith, nat_tests) in
        turned ∙ sym (ap (λ t. is_eq (cond t Less (cond (n == m) Equal Greater))) p ∙ ap (λ t. is_eq (cond t Equal Greater)) q ∙ tells b)
      where
        tells : (b : Bool) → is_eq (cond b Equal Greater) ≡ b
        tells true = refl
        tells false = refl

both_equal : (o p : Ordering) → is_eq (ordering_then o p) ≡ (is_eq o && is_eq p)
both_equal Less p = refl
both_equal Equal p = refl
both_equal Greater p = refl

same_by_order : (x y : ℕ × ℕ) → same_pair x y ≡ is_eq (pair_cmp y x)
same_by_order x y =
    (λ i. same_number x.0 y.0 i && same_number x.1 y.1 i) ∙ sym (both_equal (nat_cmp y.0 x.0) (nat_cmp y.1 x.1))

-- a search in a list in order finds a pair exactly where it stands there
pub search_tells : (xs : List (ℕ × ℕ)) (x : ℕ × ℕ) (r : Result ℕ ℕ) → IsSearchInRange r (length xs) → IsBinarySearchResult (λ y. pair_cmp y x) xs r
    → IsSorted pair_cmp xs → is_ok r ≡ list_any (same_pair x) xs
search_tells xs x (Ok at) inside equal up =
    sym (list_any_at (same_pair x) xs at x inside (same_by_order x (get_or xs at x) ∙ ap is_eq (equal x)))
search_tells xs x (Err at) inside parted up = sym (list_any_none (same_pair x) xs (λ k d lt. same_by_order x (get_or xs k d) ∙ other k d lt))
  where
    other : (k : ℕ) (d : ℕ × ℕ) → k < length xs → is_eq (pair_cmp (get_or xs k d) x) ≡ false
    other k d lt =
        let sides = parted (searchable_from_sorted pair_total (λ (y : ℕ × ℕ). y) xs x up) in
        elim (below_or k at) [
          | inl below ↦ ap is_eq (sides.0 k d (omega arith) below)
          | inr above ↦ ap is_eq (sides.1 k d above lt)
        ]
