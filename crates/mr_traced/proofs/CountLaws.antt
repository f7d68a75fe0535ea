-- The races that pass a test, with one race more.
use Rattle.mr_traced.proofs.Common.{◌≡◌, ℕ, ◌+◌, ◌≤◌, Bool, true, false, cond, arith, true≢false, List, [], ◌∷◌, ◌++◌, length, refl, sym, ap, ap₂, ◌∙◌, All-contains, none-some, same_Some, All, Contains, count_by, IfSome, Option, None, Some, filter, find, Pair, Group, count_of, grouped, raised}
use Rattle.std.proofs.Common.{◌≢◌}
use Rattle.std.proofs.lemmas.List.{length-append}
use Rattle.std.proofs.lemmas.List.Elements.{All-cons, All-nil, filter-append}
use Rattle.std.proofs.lemmas.List.Folds.{find-append}
use Rattle.std.proofs.lemmas.List.Sums.{count_by-le-length, length-filter}
use Rattle.std.specs.Option.{option_or}

-- so many, the first of which is this one
abbrev pub group : Pair → ℕ → Group
group first count = record { first = first; count = count }

-- what is found passes
pub found_passes : (t : Pair → Bool) (rs : List Pair) (x : Pair) → find t rs ≡ Some x → t x ≡ true
found_passes t [] x e = absurd (none-some x e)
found_passes t (y ∷ rs) x e = by (t y) refl e (found_passes t rs x)
  where
    by : (b : Bool) → t y ≡ b → cond b (Some y) (find t rs) ≡ Some x → (find t rs ≡ Some x → t x ≡ true) → t x ≡ true
    by true is found later = ap t (sym (same_Some y x found)) ∙ is
    by false is found later = later found

-- where none is found none passes
none_kept : (t : Pair → Bool) (rs : List Pair) → find t rs ≡ None → filter t rs ≡ []
none_kept t [] e = refl
none_kept t (y ∷ rs) e = by (t y) e (none_kept t rs)
  where
    by : (b : Bool) → cond b (Some y) (find t rs) ≡ None → (find t rs ≡ None → filter t rs ≡ [])
        → cond b (y ∷ filter t rs) (filter t rs) ≡ []
    by true found later = absurd (none-some y (sym found))
    by false found later = later found

none_counted : (t : Pair → Bool) (rs : List Pair) → find t rs ≡ None → count_by t rs ≡ 0
none_counted t rs e = sym (length-filter t rs) ∙ ap length (none_kept t rs e)

all_fail : (t : Pair → Bool) (rs : List Pair) → find t rs ≡ None → All (λ x. t x ≡ false) rs
all_fail t [] e = All-nil (λ x. t x ≡ false)
all_fail t (y ∷ rs) e = by (t y) refl e (all_fail t rs)
  where
    by : (b : Bool) → t y ≡ b → cond b (Some y) (find t rs) ≡ None → (find t rs ≡ None → All (λ x. t x ≡ false) rs)
        → All (λ x. t x ≡ false) (y ∷ rs)
    by true is found later = absurd (none-some y (sym found))
    by false is found later = All-cons (λ x. t x ≡ false) y rs is (later found)

-- one that is there and passes is found, or another one
pub not_missed : (t : Pair → Bool) (rs : List Pair) (p : Pair) → Contains rs p → t p ≡ true → find t rs ≢ None
not_missed t rs p inside passes e =
    true≢false (sym passes ∙ All-contains (λ x. t x ≡ false) rs p (all_fail t rs e) inside)

-- one race more is counted where it passes
counted_more : (t : Pair → Bool) (rs : List Pair) (p : Pair) (b : Bool) → t p ≡ b
    → count_by t (rs ++ p ∷ []) ≡ count_by t rs + cond b 1 0
counted_more t rs p b is =
    sym (length-filter t (rs ++ p ∷ [])) ∙ ap length (filter-append t rs (p ∷ []))
    ∙ length-append (filter t rs) (filter t (p ∷ []))
    ∙ ap₂ (λ (m n : ℕ). m + n) (length-filter t rs) (ap (λ c. length (cond c (p ∷ []) [])) is ∙ one b)
  where
    one : (b : Bool) → length (cond b (p ∷ []) []) ≡ cond b 1 0
    one true = refl
    one false = refl

-- ONE RACE MORE raises the count of those that pass where it does
pub grouped_more : (t : Pair → Bool) (rs : List Pair) (p : Pair)
    → grouped t (rs ++ p ∷ []) (find t (rs ++ p ∷ []))
    ≡ cond (t p) (Some (raised (grouped t rs (find t rs)) p)) (grouped t rs (find t rs))
grouped_more t rs p =
    ap (grouped t (rs ++ p ∷ [])) (find-append t rs (p ∷ [])) ∙ by (t p) (find t rs) refl refl
  where
    by : (b : Bool) (o : Option Pair) → t p ≡ b → find t rs ≡ o
        → grouped t (rs ++ p ∷ []) (option_or o (cond b (Some p) None))
        ≡ cond b (Some (raised (grouped t rs o) p)) (grouped t rs o)
    by true None passes found =
        let first : count_by t rs + 1 ≡ 1 = ap (λ n. n + 1) (none_counted t rs found) in
        ap (λ n. Some (group p n)) (counted_more t rs p true passes ∙ first)
    by true (Some x) passes found = ap (λ n. Some (group x n)) (counted_more t rs p true passes)
    by false None fails found = refl
    by false (Some x) fails found =
        let same : count_by t rs + 0 ≡ count_by t rs = omega arith in
        ap (λ n. Some (group x n)) (counted_more t rs p false fails ∙ same)

-- a group has so many races as pass
pub count_grouped : (t : Pair → Bool) (rs : List Pair) → count_of (grouped t rs (find t rs)) ≡ count_by t rs
count_grouped t rs = by (find t rs) refl
  where
    by : (o : Option Pair) → find t rs ≡ o → count_of (grouped t rs o) ≡ count_by t rs
    by None e = sym (none_counted t rs e)
    by (Some x) e = refl

-- there are no more than races
pub few_grouped : (t : Pair → Bool) (rs : List Pair) (o : Option Pair)
    → IfSome (grouped t rs o) (λ g. g.count ≤ length rs)
few_grouped t rs None = tt
few_grouped t rs (Some x) = count_by-le-length t rs
