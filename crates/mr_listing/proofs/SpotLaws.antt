-- What is written of a statement is told by its first bytes.
use Rattle.mr_listing.proofs.Common.{◌≡◌, ℕ, zero, suc, ◌<◌, ◌≤◌, Bool, List, [], ◌∷◌, length, take, refl, ap, arith, min, prefix_len, cut_text, is_inside}
use Rattle.std.proofs.Common.{inl, inr}
use Rattle.std.proofs.lemmas.Bool.{cases_Bool, cases_lt, lt-ltb}
use Rattle.std.proofs.lemmas.List.Sums.{prefix_len-le-length}

-- how many pass from the front on, among the first ones
prefix_within : {X : Type 0} (p : X → Bool) (k : ℕ) (xs : List X) → prefix_len p (take k xs) ≡ min (prefix_len p xs) k
prefix_within p zero xs = omega arith
prefix_within p (suc k) [] = omega arith
prefix_within p (suc k) (x ∷ xs) =
    elim (cases_Bool (p x)) [
      | inl t ↦ rw t (let rest = prefix_within p k xs in omega (arith, rest))
      | inr f ↦ rw f (omega arith)
    ]

-- of more than 60 bytes the same is written, however many they are
cut_more : (rest : List ℕ) (a b : ℕ) → 60 < a → 60 < b → cut_text rest a ≡ cut_text rest b
cut_more rest a b more others =
    let one : min a 60 ≡ 60 = omega arith in
    let other : min b 60 ≡ 60 = omega arith in
    rw (lt-ltb 60 a more, lt-ltb 60 b others, one, other) refl

-- the first 61 bytes, or all
abbrev pub looked : List ℕ → List ℕ
looked rest = take (min (length rest) 61) rest

looked_length : (rest : List ℕ) → prefix_len is_inside (looked rest) ≡ min (prefix_len is_inside rest) 61
looked_length rest =
    let within = prefix_within is_inside (min (length rest) 61) rest in
    let long = prefix_len-le-length is_inside rest in
    omega (arith, within, long)

pub looked_within : (rest : List ℕ) → prefix_len is_inside (looked rest) ≤ length rest
looked_within rest =
    let same = looked_length rest in
    let long = prefix_len-le-length is_inside rest in
    omega (arith, same, long)

pub looked_enough : (rest : List ℕ) → cut_text rest (prefix_len is_inside (looked rest)) ≡ cut_text rest (prefix_len is_inside rest)
looked_enough rest =
    let same = looked_length rest in
    elim (cases_lt (prefix_len is_inside rest) 61) [
      | inl few ↦
          let kept : prefix_len is_inside (looked rest) ≡ prefix_len is_inside rest = omega (arith, same, few) in
          ap (cut_text rest) kept
      | inr many ↦ cut_more rest (prefix_len is_inside (looked rest)) (prefix_len is_inside rest) (omega (arith, same, many)) (omega (arith, many))
    ]
