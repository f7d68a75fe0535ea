-- Lists that a loop makes, one element a turn.
use Rattle.mr_gen.proofs.Common.{◌≡◌, ℕ, ◌+◌, ◌-◌, ◌≤◌, List, [], ◌∷◌, ◌++◌, map, sym, ap, ◌∙◌, arith, fold, range_with_len}
use Rattle.std.proofs.Common.{append_assoc}
use Rattle.std.proofs.lemmas.List.FromFn.{map-range_with_len_more}
use Rattle.std.proofs.lemmas.List.Sums.{fold_push}

module _ {A : Type 0} (f : ℕ → A) where
  -- behind turn k stand k elements
  map-range_next : (k : ℕ) → 1 ≤ k → map f (range_with_len 1 ((k + 1) - 1)) ≡ map f (range_with_len 1 (k - 1)) ++ f k ∷ []
  map-range_next k le =
      let next : (k + 1) - 1 ≡ (k - 1) + 1 = omega arith in
      ap (λ n. map f (range_with_len 1 n)) next ∙ map-range_with_len_more f 1 (k - 1) k (omega arith)

  -- turn k pushes element k
  pub pushed_next : (old now : List A) (k : ℕ) (x : A) → 1 ≤ k → now ≡ old ++ map f (range_with_len 1 (k - 1)) → x ≡ f k
      → now ++ x ∷ [] ≡ old ++ map f (range_with_len 1 ((k + 1) - 1))
  pushed_next old now k x le here is =
      ap (λ xs. xs ++ x ∷ []) here ∙ ap (λ y. (old ++ map f (range_with_len 1 (k - 1))) ++ y ∷ []) is
      ∙ append_assoc old (map f (range_with_len 1 (k - 1))) (f k ∷ []) ∙ ap (λ xs. old ++ xs) (sym (map-range_next k le))

  module _ {B : Type 0} (step : B → A → B) where
    -- turn k takes the step of element k
    pub folded_next : (old now new : B) (k : ℕ) → 1 ≤ k → now ≡ fold step old (map f (range_with_len 1 (k - 1))) → new ≡ step now (f k)
        → new ≡ fold step old (map f (range_with_len 1 ((k + 1) - 1)))
    folded_next old now new k le here is =
        is ∙ ap (λ b. step b (f k)) here ∙ sym (fold_push step old (map f (range_with_len 1 (k - 1))) (f k))
        ∙ ap (fold step old) (sym (map-range_next k le))
