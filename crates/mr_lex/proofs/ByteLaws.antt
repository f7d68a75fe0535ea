-- The classes of bytes are apart.
use Rattle.mr_lex.proofs.Common.{◌≡◌, ℕ, true, false, arith, both_ways, false_from_ne_true, nat_tests, is_blank, is_inline, begins_comment, is_letter, is_digit, is_word_byte, is_symbol, begins_arrow, ends_arrow}
use Rattle.std.proofs.Common.{◌||◌}
use Rattle.std.proofs.lemmas.Bool.{or_parts, or_from}
use Rattle.mr_lex.specs.Bytes.{begins_piece}

pub letter_no_blank : (b : ℕ) → is_letter b ≡ true → is_blank b ≡ false
letter_no_blank b letter = grind (arith, nat_tests)

pub letter_no_comment : (b : ℕ) → is_letter b ≡ true → begins_comment b ≡ false
letter_no_comment b letter = grind (arith, nat_tests)

pub digit_no_blank : (b : ℕ) → is_digit b ≡ true → is_blank b ≡ false
digit_no_blank b digit = grind (arith, nat_tests)

pub digit_no_comment : (b : ℕ) → is_digit b ≡ true → begins_comment b ≡ false
digit_no_comment b digit = grind (arith, nat_tests)

pub digit_no_letter : (b : ℕ) → is_digit b ≡ true → is_letter b ≡ false
digit_no_letter b digit = grind (arith, nat_tests)

pub symbol_no_blank : (b : ℕ) → is_symbol b ≡ true → is_blank b ≡ false
symbol_no_blank b symbol = grind (arith, nat_tests)

pub symbol_no_comment : (b : ℕ) → is_symbol b ≡ true → begins_comment b ≡ false
symbol_no_comment b symbol = grind (arith, nat_tests)

pub symbol_no_letter : (b : ℕ) → is_symbol b ≡ true → is_letter b ≡ false
symbol_no_letter b symbol = grind (arith, nat_tests)

pub symbol_no_digit : (b : ℕ) → is_symbol b ≡ true → is_digit b ≡ false
symbol_no_digit b symbol = grind (arith, nat_tests)

-- an arrow begins with a symbol
pub arrow_symbol : (b : ℕ) → begins_arrow b ≡ true → is_symbol b ≡ true
arrow_symbol b arrow = grind (arith, nat_tests)

pub letter_word_byte : (b : ℕ) → is_letter b ≡ true → is_word_byte b ≡ true
letter_word_byte b letter = grind (arith, nat_tests)

pub comment_inline : (b : ℕ) → begins_comment b ≡ true → is_inline b ≡ true
comment_inline b comment = grind (arith, nat_tests)

pub word_byte_inline : (b : ℕ) → is_word_byte b ≡ true → is_inline b ≡ true
word_byte_inline b word = grind (arith, nat_tests)

pub digit_inline : (b : ℕ) → is_digit b ≡ true → is_inline b ≡ true
digit_inline b digit = grind (arith, nat_tests)

pub arrow_inline : (b : ℕ) → begins_arrow b ≡ true → is_inline b ≡ true
arrow_inline b arrow = grind (arith, nat_tests)

pub arrow_end_inline : (b : ℕ) → ends_arrow b ≡ true → is_inline b ≡ true
arrow_end_inline b arrow = grind (arith, nat_tests)

-- what a byte is not that begins no piece
pub record BeginsNothing (b : ℕ) : Type 0 where
  pub blank : is_blank b ≡ false
  pub comment : begins_comment b ≡ false
  pub letter : is_letter b ≡ false
  pub digit : is_digit b ≡ false
  pub symbol : is_symbol b ≡ false
  pub arrow : begins_arrow b ≡ false

pub begins_nothing : (b : ℕ) → begins_piece b ≡ false → BeginsNothing b
begins_nothing b none =
    let last = or_parts (is_blank b || begins_comment b || is_letter b || is_digit b) (is_symbol b) none in
    let fourth = or_parts (is_blank b || begins_comment b || is_letter b) (is_digit b) last.0 in
    let third = or_parts (is_blank b || begins_comment b) (is_letter b) fourth.0 in
    let second = or_parts (is_blank b) (begins_comment b) third.0 in
    record {
      blank = second.0;
      comment = second.1;
      letter = third.1;
      digit = fourth.1;
      symbol = last.1;
      arrow = false_from_ne_true (begins_arrow b) (λ arrow. both_ways (is_symbol b) last.1 (arrow_symbol b arrow));
    }

pub nothing_begins : (b : ℕ) → is_blank b ≡ false → begins_comment b ≡ false → is_letter b ≡ false → is_digit b ≡ false → is_symbol b ≡ false → begins_piece b ≡ false
nothing_begins b blank comment letter digit symbol =
    or_from _ _ (or_from _ _ (or_from _ _ (or_from _ _ blank comment) letter) digit) symbol
