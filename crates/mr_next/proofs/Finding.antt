-- The first of some numbers that passes a test.
use Rattle.mr_next.proofs.Common.{◌≡◌, ℕ, suc, ◌+◌, ◌-◌, ◌<◌, ◌∙◌, ap, arith, Bool, false, refl, find, range_with_len}

-- where one doesn't, it is sought among those behind it
pub find_behind : (f : ℕ → Bool) (at n : ℕ) → at < n → f at ≡ false
    → find f (range_with_len at (n - at)) ≡ find f (range_with_len (at + 1) (n - (at + 1)))
find_behind f at n less none =
    let one : n - at ≡ suc (n - (at + 1)) = omega arith in
    ap (λ (m : ℕ). find f (range_with_len at m)) one ∙ rw none refl
