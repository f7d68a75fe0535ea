-- What a list with a part replaced has at each place.
use Rattle.mr_plan.proofs.Common.{◌≡◌, ℕ, ◌+◌, ◌-◌, ◌<◌, ◌≤◌, ap, ◌∙◌, List, ◌++◌, length, take, drop, arith, slice_get, AbstractByte}
use Rattle.std.proofs.Common.{append_assoc, length-take}
use Rattle.mr_runs.specs.Ranges.{with_range_replaced}
use Rattle.mr_base.proofs.Lists.{slice_get-drop, slice_get-append_left, slice_get-append_right, slice_get-take}

module _ (xs : List AbstractByte) (i : ℕ) (ys : List AbstractByte) (fits : i + length ys ≤ length xs) where
  length-front : length (take i xs) ≡ i
  length-front = grind (arith, length-take)

  -- the front, and what is behind it
  replaced_is : with_range_replaced xs i ys ≡ take i xs ++ (ys ++ drop (i + length ys) xs)
  replaced_is = append_assoc (take i xs) ys (drop (i + length ys) xs)

  -- behind the front
  from_new : (k : ℕ) → i ≤ k → slice_get (with_range_replaced xs i ys) k ≡ slice_get (ys ++ drop (i + length ys) xs) (k - i)
  from_new k a =
      ap (λ (zs : List AbstractByte). slice_get zs k) replaced_is
      ∙ slice_get-append_right (take i xs) _ k (omega (arith, length-front))
      ∙ ap (λ n. slice_get (ys ++ drop (i + length ys) xs) (k - n)) length-front

  pub spliced_in : (k : ℕ) → i ≤ k → k < i + length ys → slice_get (with_range_replaced xs i ys) k ≡ slice_get ys (k - i)
  spliced_in k a b = from_new k a ∙ slice_get-append_left ys _ (k - i) (omega arith)

  pub spliced_below : (k : ℕ) → k < i → slice_get (with_range_replaced xs i ys) k ≡ slice_get xs k
  spliced_below k a =
      ap (λ (zs : List AbstractByte). slice_get zs k) replaced_is
      ∙ slice_get-append_left (take i xs) _ k (omega (arith, length-front)) ∙ slice_get-take xs i k a

  pub spliced_above : (k : ℕ) → i + length ys ≤ k → slice_get (with_range_replaced xs i ys) k ≡ slice_get xs k
  spliced_above k a =
      let e : (i + length ys) + ((k - i) - length ys) ≡ k = omega arith in
      from_new k (omega arith)
      ∙ slice_get-append_right ys _ (k - i) (omega arith)
      ∙ slice_get-drop xs (i + length ys) _
      ∙ ap (slice_get xs) e
