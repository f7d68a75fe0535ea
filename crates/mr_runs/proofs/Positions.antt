-- What stands at a position, in lists of entries by position.
use Rattle.mr_runs.proofs.Common.{◌≡◌, ◌≢◌, ℕ, ◌<◌, Bool, true, false, cond, List, [], ◌∷◌, ◌++◌, Some, None, Option, refl, sym, ap, ◌∙◌, arith, nat_cmp, Ordering, Less, Equal, Greater, is_at, SeenPiece, found}
use Rattle.std.proofs.Common.{is_eq}
use Rattle.std.proofs.lemmas.Cmp.{ranked}

pub at_same : (q k : ℕ) → q ≡ k → is_at (nat_cmp q) k ≡ true
at_same q k same = by_order (nat_cmp q k) refl
  where
    by_order : (o : Ordering) → o ≡ nat_cmp q k → is_eq (nat_cmp q k) ≡ true
    by_order Less e = let less : q < k = ranked q k Less e in absurd (omega arith)
    by_order Equal e = ap is_eq (sym e)
    by_order Greater e = let greater : k < q = ranked q k Greater e in absurd (omega arith)

pub at_other : (q k : ℕ) → q ≢ k → is_at (nat_cmp q) k ≡ false
at_other q k other = by_order (nat_cmp q k) refl
  where
    by_order : (o : Ordering) → o ≡ nat_cmp q k → is_eq (nat_cmp q k) ≡ false
    by_order Less e = ap is_eq (sym e)
    by_order Equal e = absurd (other (ranked q k Equal e))
    by_order Greater e = ap is_eq (sym e)

pub same_at : (q k : ℕ) → is_at (nat_cmp q) k ≡ true → q ≡ k
same_at q k at = by_order (nat_cmp q k) refl
  where
    by_order : (o : Ordering) → o ≡ nat_cmp q k → q ≡ k
    by_order Less e = let no : false ≡ true = ap is_eq e ∙ at in absurd (cc)
    by_order Equal e = ranked q k Equal e
    by_order Greater e = let no : false ≡ true = ap is_eq e ∙ at in absurd (cc)

pub less : (q k : ℕ) → q < k → nat_cmp q k ≡ Less
less q k lt = by_order (nat_cmp q k) refl
  where
    by_order : (o : Ordering) → o ≡ nat_cmp q k → nat_cmp q k ≡ Less
    by_order Less e = sym e
    by_order Equal e = let same : q ≡ k = ranked q k Equal e in absurd (omega arith)
    by_order Greater e = let greater : k < q = ranked q k Greater e in absurd (omega arith)

-- the first entry is at the position, or it is looked for among the others
pub found_here : (q : ℕ) (e : ℕ × SeenPiece) (es : List (ℕ × SeenPiece)) → q ≡ e.0 → found q (e ∷ es) ≡ Some e.1
found_here q e es same = ap (λ b. cond b (Some e.1) (found q es)) (at_same q e.0 same)

pub found_later : (q : ℕ) (e : ℕ × SeenPiece) (es : List (ℕ × SeenPiece)) → q ≢ e.0 → found q (e ∷ es) ≡ found q es
found_later q e es other = ap (λ b. cond b (Some e.1) (found q es)) (at_other q e.0 other)

-- what is not in one of two lists is looked for in the other
pub found_behind : (xs ys : List (ℕ × SeenPiece)) (q : ℕ) → found q xs ≡ None → found q (xs ++ ys) ≡ found q ys
found_behind [] ys q none = refl
found_behind (e ∷ xs) ys q none = by_test (is_at (nat_cmp q) e.0) none (found_behind xs ys q)
  where
    by_test : (b : Bool) → cond b (Some e.1) (found q xs) ≡ None → (found q xs ≡ None → found q (xs ++ ys) ≡ found q ys) → cond b (Some e.1) (found q (xs ++ ys)) ≡ found q ys
    by_test true some rest = absurd (cc)
    by_test false none rest = rest none

pub found_before : (xs ys : List (ℕ × SeenPiece)) (q : ℕ) → found q ys ≡ None → found q (xs ++ ys) ≡ found q xs
found_before [] ys q none = none
found_before (e ∷ xs) ys q none = ap (λ (o : Option SeenPiece). cond (is_at (nat_cmp q) e.0) (Some e.1) o) (found_before xs ys q none)
