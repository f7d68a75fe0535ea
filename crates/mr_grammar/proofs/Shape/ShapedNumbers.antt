-- The numbers that a row without a broken limit writes can be written.
use Rattle.mr_grammar.proofs.Common.{Bool, ◌≡◌, true, ◌&&◌, refl, List, [], ◌∷◌, ℕ, Option, Some, if◌then◌else◌, None, false, sym, ap, ◌∙◌, ◌^◌, not, ◌==◌, bytes_eq, AllByRecursion, list_all, option_map, nat_lt, nat_le, and_parts, lt_from, le_from, some_is, Word, Scope, IsRepeat, fits_u64, is_shaped_num, is_number, value_of, judged_number, u64_form, judged_u64, limit, num_form, judged_any, judged_positive, token, judged_repeat, limited_word}
use Rattle.mr_words.proofs.BaseComparisons.{not_false}
use Rattle.mr_grammar.proofs.Walk.EnsureLaws.{Parts, Ensures, ensures_token, unbroken, ensures_either, ensures_giving, ensures_behind, ensures_cases, ensures_empty}

-- both tests pass
pub both : {a b : Bool} → a ≡ true → b ≡ true → (a && b) ≡ true
both p q = rw (p, q) refl

-- each thing of a list passes
pub all_pass : {A : Type 0} (test : A → Bool) (xs : List A) → AllByRecursion (λ x. test x ≡ true) xs → list_all test xs ≡ true
all_pass test [] all = refl
all_pass test (x ∷ xs) all = both all.0 (all_pass test xs all.1)

-- a number that may stand there, and the limit that it breaks
pub number_read : (judge : ℕ → Option (Option ℕ)) (w : Word) (n : ℕ) (flaw : Option ℕ) → judged_number judge w ≡ Some (n, flaw)
    → (is_number w.text ≡ true) × (n ≡ value_of w.text) × (judge n ≡ Some flaw)
number_read judge w n flaw e = go (is_number w.text) (judge (value_of w.text)) refl refl e
  where
    go : (number : Bool) (verdict : Option (Option ℕ)) → is_number w.text ≡ number → judge (value_of w.text) ≡ verdict
        → (if number then option_map {U = ℕ × Option ℕ} (λ f. (value_of w.text, f)) verdict else None) ≡ Some (n, flaw) → (is_number w.text ≡ true) × (n ≡ value_of w.text) × (judge n ≡ Some flaw)
    go false verdict is same at = absurd (cc)
    go true None is same at = absurd (cc)
    go true (Some f) is same at =
        let pair = some_is at in
        let value = sym (ap (λ p. p.0) pair) in
        (is, value, ap judge value ∙ same ∙ ap Some (ap (λ p. p.1) pair))

pub number_fine : (judge : ℕ → Option (Option ℕ)) (w : Word) (n : ℕ) → judged_number judge w ≡ Some (n, None) → (is_number w.text ≡ true) × (n ≡ value_of w.text) × (judge n ≡ Some None)
number_fine judge w n e = number_read judge w n None e

-- a number below 2^128
number_small : (text : List ℕ) → is_number text ≡ true → nat_lt (value_of text) (2 ^ 128) ≡ true
unfolding is_number
number_small text e = (and_parts _ (nat_lt (value_of text) (2 ^ 128)) e).1

-- what a choice gives, where it gives that no limit is broken
first_choice : (test : Bool) → ◌≡◌ {A = Option (Option ℕ)} (if test then None else Some None) (Some None) → test ≡ false
first_choice true e = absurd (cc)
first_choice false e = refl

second_choice : (small good : Bool) → ◌≡◌ {A = Option (Option ℕ)} (if small then (if good then Some None else None) else Some (Some 2)) (Some None) → good ≡ true
second_choice true true e = refl
second_choice true false e = absurd (cc)
second_choice false good e = absurd (cc)

repeat_shaped : (n : ℕ) → (nat_lt 0 n && nat_le n (2 ^ 20)) ≡ true → IsRepeat n
repeat_shaped n e = let tests = and_parts (nat_lt 0 n) (nat_le n (2 ^ 20)) e in record { some = lt_from 0 n tests.0; bounded = le_from n (2 ^ 20) tests.1 }

small_value : (judge : ℕ → Option (Option ℕ)) (w : Word) (n : ℕ) → judged_number judge w ≡ Some (n, None) → nat_lt n (2 ^ 128) ≡ true
small_value judge w n e = let fine = number_fine judge w n e in ap (λ m. nat_lt m (2 ^ 128)) fine.1 ∙ number_small w.text fine.0

module _ {height room : ℕ} {part : Parts} {scope : Scope} where
  pub ensures_u64 : Ensures height room part scope u64_form (λ n. fits_u64 n ≡ true)
  unfolding judged_u64
  ensures_u64 = ensures_token (λ w n e. not_false (fits_u64 n) (unbroken 2 (not (fits_u64 n)) (some_is (number_fine (λ m. Some (limit 2 (not (nat_lt m (2 ^ 64))))) w n e).2)))

  pub ensures_num : Ensures height room part scope num_form (λ n. is_shaped_num n ≡ true)
  unfolding judged_any judged_positive
  ensures_num = ensures_either
      (ensures_giving (ensures_behind (ensures_token {Q = λ n. (nat_lt n (2 ^ 128) ≡ true) × ((n == 0) ≡ false)}
      (λ w n e. (small_value (λ m. if m == 0 then None else Some None) w n e, first_choice (n == 0) (number_fine (λ m. if m == 0 then None else Some None) w n e).2))))
      (λ n p. both p.0 (ap not p.1)))
      (ensures_giving (ensures_token {Q = λ n. nat_lt n (2 ^ 128) ≡ true} (λ w n e. small_value (λ m. Some None) w n e)) (λ n p. both p refl))

  pub ensures_repeat : Ensures height room part scope (token judged_repeat) IsRepeat
  unfolding judged_repeat
  ensures_repeat = ensures_token (λ w n e. repeat_shaped n (second_choice (nat_lt n (2 ^ 64)) (nat_lt 0 n && nat_le n (2 ^ 20))
      (number_fine (λ m. if nat_lt m (2 ^ 64) then (if nat_lt 0 m && nat_le m (2 ^ 20) then Some None else None) else Some (Some 2)) w n e).2))

  -- a word that is not one too many
  pub ensures_limited : (code : ℕ) (over : Bool) {text : List ℕ} → Ensures height room part scope (limited_word code over text) (λ u. over ≡ false)
  ensures_limited code over {text} = ensures_cases (λ w i e. ensures_empty (kept (bytes_eq w.text text) i e))
    where
      kept : (same : Bool) (i : Unit {0}) → ◌≡◌ {A = Option (Unit {0} × Option ℕ)} (if same then Some (tt, limit code over) else None) (Some (i, None)) → over ≡ false
      kept true i e = unbroken code over (ap (λ p. p.1) (some_is e))
      kept false i e = absurd (cc)
