-- A number with one bit set is a power of two.
use Rattle.mr_mem.proofs.Common.{◌≡◌, ℕ, ◌^◌, ◌<◌, refl, arith, true, ◌⊎◌, inl, inr, ◌==◌}
use Rattle.std.proofs.Common.{zero, suc, ◌*◌, ◌/◌, ◌%◌}
use Rattle.std.specs.Int.Count.{ones, ones_in}
use Rattle.std.specs.Prelude.{count_ones}
use Rattle.std.proofs.lemmas.Bool.{eqb-true}
use Rattle.std.proofs.Math.Nat.{pow-suc}
use Rattle.mr_mem.specs.Memory.{IsPowerOfTwo}

-- a number is below so many doublings
below_power : (n : ℕ) → n < 2 ^ n
below_power zero = omega arith
below_power (suc n) = let h = below_power n in let p : 2 ^ suc n ≡ 2 ^ n * 2 = pow-suc 2 n in omega (arith, h, p)

-- no digit among those of a number
none_set : (d n : ℕ) → n < 2 ^ d → ones_in d n ≡ 0 → n ≡ 0
unfolding ones_in
none_set zero n lt e = omega arith
none_set (suc d) n lt e =
    let p : 2 ^ suc d ≡ 2 ^ d * 2 = pow-suc 2 d in
    let half : n / 2 < 2 ^ d = omega (arith, p) in
    let rest : ones_in d (n / 2) ≡ 0 = omega (arith, e) in
    let none = none_set d (n / 2) half rest in
    omega (arith, none, e)

even_or_odd : (n : ℕ) → (n % 2 ≡ 0) ⊎ (n % 2 ≡ 1)
even_or_odd n = by_rest (n % 2) (let lt : n % 2 < 2 = omega arith in lt)
  where
    by_rest : (r : ℕ) → r < 2 → (r ≡ 0) ⊎ (r ≡ 1)
    by_rest zero lt = inl refl
    by_rest (suc zero) lt = inr refl
    by_rest (suc (suc r)) lt = absurd (omega arith)

-- one digit among those of a number
one_set : (d n : ℕ) → n < 2 ^ d → ones_in d n ≡ 1 → IsPowerOfTwo n
unfolding ones_in
one_set zero n lt e = absurd (omega (arith, e))
one_set (suc d) n lt e =
    let p : 2 ^ suc d ≡ 2 ^ d * 2 = pow-suc 2 d in
    let half : n / 2 < 2 ^ d = omega (arith, p) in
    elim (even_or_odd n) [
      | inl even ↦
          let rest : ones_in d (n / 2) ≡ 1 = omega (arith, e, even) in
          let k = one_set d (n / 2) half rest in
          let q : 2 ^ suc k.0 ≡ 2 ^ k.0 * 2 = pow-suc 2 k.0 in
          (suc k.0, omega (arith, q, k.1, even))
      | inr odd ↦
          let rest : ones_in d (n / 2) ≡ 0 = omega (arith, e, odd) in
          let none = none_set d (n / 2) half rest in
          (0, omega (arith, none, odd))
    ]

pub one_bit_power : (n : ℕ) → (count_ones n == 1) ≡ true → IsPowerOfTwo n
unfolding ones
one_bit_power n e = one_set n n (below_power n) (eqb-true (count_ones n) 1 e)
