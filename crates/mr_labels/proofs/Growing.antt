-- Lists that a loop makes, a number after the other.
use Rattle.mr_labels.proofs.Common.{◌≡◌, ℕ, zero, suc, ◌+◌, ◌≤◌, List, [], ◌∷◌, ◌++◌, map, sym, ap, ◌∙◌, append-nil, arith, flat_map, range_with_len}
use Rattle.std.proofs.Common.{◌-◌, append_assoc}
use Rattle.std.proofs.lemmas.List.FromFn.{map-range_with_len_more}

-- what one more number makes stands behind the rest
flat_range : {X : Type 0} (f : ℕ → List X) (a n j : ℕ) → a + n ≡ j
    → flat_map f (range_with_len a (n + 1)) ≡ flat_map f (range_with_len a n) ++ f j
flat_range f a zero j e = let same : a ≡ j = omega (arith, e) in append-nil (f a) ∙ ap f same
flat_range f a (suc n) j e =
    let more : suc n + 1 ≡ suc (n + 1) = omega arith in
    let there : (a + 1) + n ≡ j = omega (arith, e) in
    ap (λ k. flat_map f (range_with_len a k)) more
    ∙ ap (λ xs. f a ++ xs) (flat_range f (a + 1) n j there)
    ∙ sym (append_assoc (f a) (flat_map f (range_with_len (a + 1) n)) (f j))

-- turn n appends what number a + n makes
pub appended_next : {X : Type 0} (f : ℕ → List X) (old now : List X) (a n j : ℕ) → a + n ≡ j
    → now ≡ old ++ flat_map f (range_with_len a n) → now ++ f j ≡ old ++ flat_map f (range_with_len a (n + 1))
appended_next f old now a n j e here =
    ap (λ xs. xs ++ f j) here ∙ append_assoc old (flat_map f (range_with_len a n)) (f j)
    ∙ ap (λ xs. old ++ xs) (sym (flat_range f a n j e))

-- from a number on up to a smaller one there is none
pub nothing_from : {X : Type 0} (f : ℕ → List X) (a n : ℕ) → n ≤ a → flat_map f (range_with_len a (n - a)) ≡ []
nothing_from f a n le = let none : n - a ≡ 0 = omega (arith, le) in ap (λ k. flat_map f (range_with_len a k)) none

-- turn n pushes element n
pub pushed_next : {X : Type 0} (f : ℕ → X) (old now : List X) (n : ℕ) → now ≡ old ++ map f (range_with_len 0 n)
    → now ++ f n ∷ [] ≡ old ++ map f (range_with_len 0 (n + 1))
pushed_next f old now n here =
    ap (λ xs. xs ++ f n ∷ []) here ∙ append_assoc old (map f (range_with_len 0 n)) (f n ∷ [])
    ∙ ap (λ xs. old ++ xs) (sym (map-range_with_len_more f 0 n n (omega arith)))
