-- Integers and naturals that differ by a multiple of a modulus.
use Rattle.mr_eval.proofs.Common.{◌≡◌, ℕ, ◌+◌, ◌*◌, ◌%◌, ◌<◌, refl, ap, ◌∙◌, arith, ℤ, pos, ◌*ℤ◌, ints}
use Rattle.std.specs.Int.{int_rem_euclid}
use Rattle.std.proofs.lemmas.Int.{int_rem_euclid_is}
use Rattle.std.proofs.Math.Nat.{add-mul-mod_self_right}
use borrow.Author.Differences.{up, down, product_is}

-- z and n differ by a multiple of m. One of `up z` and `down z` is z without its sign, and the other is 0
pub record IsCongruent (m : ℕ) (z : ℤ) (n : ℕ) : Type 0 where
  pub below : ℕ
  pub above : ℕ
  pub same : up z + below * m ≡ n + above * m + down z

-- from there the rest of z is the rest of n
pub int_rem_euclid-congruent : (m : ℕ) (z : ℤ) (n : ℕ) → 0 < m → IsCongruent m z n → int_rem_euclid z (pos m) ≡ pos (n % m)
int_rem_euclid-congruent m z n some c =
    let same = c.same in
    int_rem_euclid_is z (pos m) m c.below (n + c.above * m) some refl (omega (arith, ints)) ∙ ap pos (add-mul-mod_self_right n c.above m)

pub congruent_pos : (m n : ℕ) → IsCongruent m (pos n) n
congruent_pos m n = record { below = 0; above = 0; same = omega arith }

pub congruent_product : (m : ℕ) (x y : ℤ) (a b : ℕ) → IsCongruent m x a → IsCongruent m y b → IsCongruent m (x *ℤ y) (a * b)
congruent_product m x y a b p q =
    let p-up = ap (λ k. k * up y) p.same in
    let p-down = ap (λ k. k * down y) p.same in
    let q-a = ap (λ k. a * k) q.same in
    record {
      below = p.below * up y + p.above * down y + a * q.below;
      above = p.above * up y + p.below * down y + a * q.above;
      same = omega (arith, product_is x y);
    }
