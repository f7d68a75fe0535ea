-- Numbers and their decimal digits.
use Rattle.mr_lex.proofs.Common.{◌≡◌, ℕ, ◌+◌, ◌-◌, ◌*◌, ◌^◌, ◌<◌, ◌≤◌, true, List, [], ◌∷◌, ◌++◌, length, sym, ap, ◌∙◌, arith, append_assoc, IsTrue, AllByRecursion, nat_tests, append-nil, is_digit, number_of, IsFineNumber}
use Rattle.std.proofs.Common.{◌/◌, ◌%◌}
use Rattle.std.specs.Fmt.{decimal}
use Rattle.std.proofs.lemmas.Fmt.{decimal_step_wide, decimal_digit}
use Rattle.mr_lex.proofs.NumberLaws.{number_after, number_after_ge}

-- the bytes are digits
abbrev pub AreDigits : List ℕ → Type 0
AreDigits bytes = AllByRecursion (λ b. IsTrue (is_digit b)) bytes

digit_least : (b : ℕ) → is_digit b ≡ true → 48 ≤ b
digit_least b digit = grind (arith, nat_tests)

digit_most : (b : ℕ) → is_digit b ≡ true → b ≤ 57
digit_most b digit = grind (arith, nat_tests)

decimal-number_after : (n : ℕ) (digits : List ℕ) → 0 < n → AreDigits digits → number_after n digits < 10 ^ 64 → decimal (number_after n digits) ≡ decimal n ++ digits
decimal-number_after n [] some each small = sym (append-nil (decimal n))
decimal-number_after n (b ∷ digits) some each small =
    let m : ℕ = n * 10 + (b - 48) in
    let least = digit_least b each.0 in
    let most = digit_most b each.0 in
    let front : m / 10 ≡ n = omega arith in
    let end : 48 + m % 10 ≡ b = omega arith in
    decimal-number_after m digits (omega arith) each.1 small
    ∙ ap (λ text. text ++ digits)
    (decimal_step_wide m (omega arith) (omega (arith, number_after_ge m digits)) ∙ (λ i. decimal (front i) ++ (end i ∷ [])))
    ∙ append_assoc (decimal n) (b ∷ []) digits

-- a number that a text may hold stands there as it is written
pub decimal-number_of : (digits : List ℕ) → 0 < length digits → AreDigits digits → IsFineNumber digits → decimal (number_of digits) ≡ digits
decimal-number_of [] some each fine = absurd (omega arith)
decimal-number_of (b ∷ []) some each fine =
    let least = digit_least b each.0 in
    let most = digit_most b each.0 in
    decimal_digit (0 * 10 + (b - 48)) (omega arith) ∙ ap (λ d. d ∷ []) (omega arith)
decimal-number_of (b ∷ d ∷ digits) some each fine =
    let least = digit_least b each.0 in
    let most = digit_most b each.0 in
    let no_zero : b ≡ 48 → ⊥ = λ zero. omega (arith, fine.plain zero) in
    let first : 48 + (0 * 10 + (b - 48)) ≡ b = omega arith in
    decimal-number_after (0 * 10 + (b - 48)) (d ∷ digits) (omega arith) each.1 (omega (arith, fine.small))
    ∙ ap (λ text. text ++ (d ∷ digits)) (decimal_digit (0 * 10 + (b - 48)) (omega arith) ∙ ap (λ c. c ∷ []) first)
