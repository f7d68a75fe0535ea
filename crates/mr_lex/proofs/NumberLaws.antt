-- The values of digits.
use Rattle.mr_lex.proofs.Common.{zero, suc, ◌+◌, ◌-◌, ◌*◌, ◌≤◌, [], ◌∷◌, take, ◌≡◌, ℕ, ◌<◌, true, length, List, get_or, arith, nat_tests, number_of, IsFineNumber, is_fine_number}
use Rattle.std.specs.List.{fold}

-- the test of a number
pub is_fine_number-true : (digits : List ℕ) → is_fine_number digits ≡ true → IsFineNumber digits
is_fine_number-true digits e = record { plain = grind (arith, nat_tests); small = grind (arith, nat_tests) }

pub fine_is_fine_number : (digits : List ℕ) → IsFineNumber digits → is_fine_number digits ≡ true
fine_is_fine_number digits fine =
    let plain = fine.plain in
    let small = fine.small in
    grind (arith, nat_tests)

-- the value of more digits behind a number
abbrev pub number_after : ℕ → List ℕ → ℕ
number_after n digits = fold (λ m digit. m * 10 + (digit - 48)) n digits

pub number_after_ge : (n : ℕ) (digits : List ℕ) → n ≤ number_after n digits
number_after_ge n [] = omega arith
number_after_ge n (d ∷ digits) = omega (arith, number_after_ge (n * 10 + (d - 48)) digits)

number_after_more : (n : ℕ) (digits : List ℕ) (i : ℕ) → i < length digits → number_after n (take i digits) * 10 + (get_or digits i 0 - 48) ≤ number_after n digits
number_after_more n [] i within = absurd (omega arith)
number_after_more n (d ∷ digits) zero within = number_after_ge (n * 10 + (d - 48)) digits
number_after_more n (d ∷ digits) (suc i) within = number_after_more (n * 10 + (d - 48)) digits i (omega arith)

-- the first digits, and one more, are no more than all
pub number_of_more : (digits : List ℕ) (i : ℕ) → i < length digits → number_of (take i digits) * 10 + (get_or digits i 0 - 48) ≤ number_of digits
number_of_more digits i within = number_after_more 0 digits i within
