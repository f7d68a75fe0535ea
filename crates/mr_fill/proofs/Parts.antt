-- The parts of a text between the bytes that pass a test.
use Rattle.mr_fill.proofs.Common.{◌≡◌, ℕ, ◌+◌, ◌<◌, ◌≤◌, Bool, true, false, List, [], ◌∷◌, length, take, drop, Some, None, refl, arith, slice_split}
use Rattle.std.proofs.Common.{cond, ltb}
use Rattle.std.specs.Prelude.{position}
use Rattle.std.specs.List.{position_or_len}
use Rattle.std.proofs.lemmas.Bool.{ltb-true, ltb-false}
use Rattle.std.proofs.lemmas.Option.{cond_some}
use Rattle.std.proofs.lemmas.List.Sums.{fails_before_first}
use Rattle.std.proofs.lemmas.List.Splits.{slice_split_none, slice_split_first}

cond_none : {A : Type 0} (b : Bool) (x : A) → cond b (Some x) None ≡ None → b ≡ false
cond_none true x e = absurd cc
cond_none false x e = refl

module _ (p : ℕ → Bool) (text : List ℕ) where
  -- no byte passes, so that there is one part
  pub one_part : position p text ≡ None → slice_split p text ≡ text ∷ []
  one_part e =
      let past : length text ≤ position_or_len p text = ltb-false _ _ (cond_none (ltb (position_or_len p text) (length text)) _ e) in
      slice_split_none p text (λ k d lt. fails_before_first p text k d (omega arith))

  -- the first part ends at the first byte that does
  pub first_part_at : (at : ℕ) → position p text ≡ Some at → (at < length text) × (slice_split p text ≡ take at text ∷ slice_split p (drop (at + 1) text))
  first_part_at at e =
      let q = cond_some (ltb (position_or_len p text) (length text)) (position_or_len p text) at e in
      let lt : position_or_len p text < length text = ltb-true _ _ q.0 in
      rw (← q.1) (lt, slice_split_first p text 0 lt)
