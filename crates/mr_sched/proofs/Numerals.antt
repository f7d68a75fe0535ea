-- Numerals: the decimal text of a number spells it, and no other text does.
use Rattle.mr_sched.proofs.Common.{◌≡◌, ℕ, zero, suc, ◌+◌, ◌^◌, ◌<◌, ◌≤◌, true, false, cond, not, ◌&&◌, eqb, ltb, List, [], ◌∷◌, length, get_or, take, Option, Some, None, Result, Ok, Err, refl, sym, ap, arith, inl, inr, decimal, option_and_then, AllDigits, digits_value, and_parts, cases_Bool, cases_lt, lt-ltb, ltb-true, le-ltb, ne_eqb, eqb-false, not-true, false≢true, cond_some, decimal_is_IsNumeral, decimal_digit, number_of}
use Rattle.std.proofs.Common.{◌*◌}
use Rattle.std.specs.Prelude.{SomeIff, OkIff}
use Rattle.std.specs.Result.{result_ok}
use Rattle.std.specs.Str.{all_ascii_digits}
use Rattle.std.specs.Char.{is_ascii_digit, digit_value}
use Rattle.std.proofs.lemmas.Bool.{and_from, false_from_ne_true, not_from_false}
use Rattle.std.proofs.lemmas.Str.Parse.{IsNumeralModel, numerals_by_value, tells_digits, tells_all_ascii_digits, digits_value-take-le}
use Rattle.std.proofs.lemmas.Int.Digits.{digits_more, digits_value_more}
use Rattle.std.proofs.lemmas.Fmt.{decimal-digits_value, first_decimal}
use Rattle.mr_sched.specs.Reading.{is_numeral}

digits : IsNumeralModel (AllDigits 10) (digits_value 10)
digits = numerals_by_value _ tells_digits

ascii : IsNumeralModel (λ ds. all_ascii_digits ds ≡ true) (digits_value 10)
ascii = numerals_by_value _ tells_all_ascii_digits

-- digits, at least one, and no 0 before another
pub record IsCanonical (word : List ℕ) : Type 0 where
  pub all : AllDigits 10 word
  pub some : 0 < length word
  pub lead : get_or word 0 0 ≡ 48 → length word ≡ 1

pub canonical_from_test : (word : List ℕ) → is_numeral word ≡ true → IsCanonical word
canonical_from_test [] e = absurd (false≢true e)
canonical_from_test (d ∷ []) e = record { all = ascii.to (d ∷ []) (and_from _ _ e refl); some = omega arith; lead = λ _. refl }
canonical_from_test (d ∷ n ∷ ds) e =
    let p = and_parts (not (eqb d 48)) (all_ascii_digits (d ∷ n ∷ ds)) e in
    record { all = ascii.to (d ∷ n ∷ ds) p.1; some = omega arith; lead = λ z. absurd (eqb-false d 48 (not-true _ p.0) z) }

pub test_from_canonical : (word : List ℕ) → IsCanonical word → is_numeral word ≡ true
test_from_canonical [] h = absurd (omega (arith, h.some))
test_from_canonical (d ∷ []) h = (and_parts (is_ascii_digit d) true (ascii.from (d ∷ []) h.all)).0
test_from_canonical (d ∷ n ∷ ds) h =
    and_from (not (eqb d 48)) (all_ascii_digits (d ∷ n ∷ ds)) (not_from_false _ (ne_eqb d 48 (λ z. absurd (omega (arith, h.lead z))))) (ascii.from (d ∷ n ∷ ds) h.all)

-- what spells a number is its decimal text
pub spelled_from_number : (limit : ℕ) (word : List ℕ) (n : ℕ) → limit ≤ 2 ^ 64 → number_of limit word ≡ Some n → (word ≡ decimal n) × (n < limit)
unfolding number_of
spelled_from_number limit word n le e =
    let q = cond_some (is_numeral word && ltb (digits_value 10 word) limit) (digits_value 10 word) n e in
    let p = and_parts (is_numeral word) _ q.0 in
    let h = canonical_from_test word p.0 in
    let lt : digits_value 10 word < limit = ltb-true _ _ p.1 in
    let same : decimal (digits_value 10 word) ≡ word = decimal-digits_value digits word h.all h.some h.lead (omega arith) in
    rw (← q.1) (sym same, lt)

decimal_is_canonical : (n : ℕ) → n < 2 ^ 64 → IsCanonical (decimal n)
decimal_is_canonical n lt =
    let h = decimal_is_IsNumeral n lt in
    record { all = h.0.1; some = h.0.0; lead = leading n lt }
  where
    leading : (n : ℕ) → n < 2 ^ 64 → get_or (decimal n) 0 0 ≡ 48 → length (decimal n) ≡ 1
    leading zero lt e = ap length (decimal_digit 0 (omega arith))
    leading (suc n) lt e = absurd (omega (arith, first_decimal (suc n) (omega arith) lt))

-- the decimal text of a number spells it
pub number_of-decimal : (limit n : ℕ) → limit ≤ 2 ^ 64 → n < limit → number_of limit (decimal n) ≡ Some n
unfolding number_of
number_of-decimal limit n le lt =
    let h = decimal_is_IsNumeral n (omega arith) in
    let test = test_from_canonical (decimal n) (decimal_is_canonical n (omega arith)) in
    rw (test, h.1, lt-ltb n limit lt) refl

digit_below : (ds : List ℕ) (i : ℕ) → AllDigits 10 ds → i < length ds → digit_value (get_or ds i 0) < 10
digit_below [] i h lt = absurd (omega arith)
digit_below (d ∷ ds) zero h lt = h.0
digit_below (d ∷ ds) (suc i) h lt = digit_below ds i h.1 (omega arith)

-- a digit more, where it is one and the number stays below the limit
pub with_digit : (word : List ℕ) (i : ℕ) → i < length word → AllDigits 10 (take i word) → digit_value (get_or word i 0) < 10
    → AllDigits 10 (take (i + 1) word) × (digits_value 10 (take (i + 1) word) ≡ digits_value 10 (take i word) * 10 + digit_value (get_or word i 0))
with_digit word i lt all digit = (digits_more 10 word i lt all digit, digits_value_more 10 word i lt)

-- and else the word is no number below the limit
pub without_digit : (word : List ℕ) (i limit : ℕ) → i < length word
    → ((digit_value (get_or word i 0) < 10) × (digits_value 10 (take i word) * 10 + digit_value (get_or word i 0) < limit) → ⊥)
    → AllDigits 10 word × (digits_value 10 word < limit) → ⊥
without_digit word i limit lt fails h =
    fails (digit_below word i h.0 lt, omega (arith, h.1, digits_value_more 10 word i lt, digits_value-take-le 10 word (i + 1) (omega arith)))

-- a word that is no numeral spells no number
pub number_of-other : (limit : ℕ) (word : List ℕ) → (IsCanonical word → ⊥) → number_of limit word ≡ None
unfolding number_of
number_of-other limit word other =
    let no_test : is_numeral word ≡ false = false_from_ne_true _ (λ e. other (canonical_from_test word e)) in
    rw no_test refl

-- the number of digits, where there are some and no 0 stands before another
pub number_of-digits : (limit : ℕ) (word : List ℕ) (r : Option ℕ) → 0 < length word → (get_or word 0 0 ≡ 48 → length word ≡ 1)
    → SomeIff r (AllDigits 10 word × (digits_value 10 word < limit)) (digits_value 10 word) → r ≡ number_of limit word
unfolding number_of
number_of-digits limit word None some lead fails =
    elim (cases_Bool (is_numeral word && ltb (digits_value 10 word) limit)) [
      | inl t ↦ absurd (let p = and_parts (is_numeral word) _ t in fails ((canonical_from_test word p.0).all, ltb-true _ _ p.1))
      | inr f ↦ rw f refl
    ]
number_of-digits limit word (Some n) some lead given =
    let test = test_from_canonical word (record { all = given.0.0; some = some; lead = lead }) in
    rw (test, lt-ltb _ limit given.0.1, given.1) refl

-- a number below 2 ^ 32 is one below 2 ^ 64
pub number_of-narrow : (word : List ℕ) → number_of (2 ^ 32) word ≡ option_and_then (λ n. cond (ltb n (2 ^ 32)) (Some n) None) (number_of (2 ^ 64) word)
unfolding number_of
number_of-narrow word =
    elim (cases_Bool (is_numeral word)) [
      | inr f ↦ rw f refl
      | inl t ↦ rw t (narrow (digits_value 10 word))
    ]
  where
    narrow : (n : ℕ) → cond (ltb n (2 ^ 32)) (Some n) None ≡ option_and_then (λ n. cond (ltb n (2 ^ 32)) (Some n) None) (cond (ltb n (2 ^ 64)) (Some n) None)
    narrow n =
        elim (cases_lt n (2 ^ 64)) [
          | inl lt ↦ rw (lt-ltb n (2 ^ 64) lt) refl
          | inr le ↦ rw (le-ltb n (2 ^ 64) le, le-ltb n (2 ^ 32) (omega arith)) refl
        ]

-- a number where it is below the limit
pub result_ok-below : {E : Type 0} (r : Result ℕ E) (n limit : ℕ) → OkIff r (n < limit) n → result_ok r ≡ cond (ltb n limit) (Some n) None
result_ok-below (Ok m) n limit given = rw (lt-ltb n limit given.0, given.1) refl
result_ok-below (Err e) n limit fails =
    elim (cases_lt n limit) [
      | inl lt ↦ absurd (fails lt)
      | inr le ↦ rw (le-ltb n limit le) refl
    ]
