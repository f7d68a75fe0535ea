-- How lines and columns go on.
use Rattle.mr_lex.proofs.Common.{◌≡◌, ℕ, zero, suc, ◌+◌, ◌-◌, ◌<◌, ◌≤◌, true, false, List, ◌∷◌, length, get_or, take, drop, sym, ap, ◌∙◌, subst, ⊎_elim, arith, length-take, length-drop, add-zero, IsTrue, slice_range, AllByRecursion, both_ways, is_inline, IsOneLine}
use Rattle.std.proofs.Common.{eqb}
use Rattle.std.specs.List.{suffix_len}
use Rattle.std.proofs.lemmas.Bool.{not-true, not-false}
use Rattle.std.proofs.lemmas.List.{drop_more}
use Rattle.std.proofs.lemmas.List.Sums.{count_by_more_no, count_by_more_yes, suffix_len-take_yes, suffix_len-take_no, suffix_len-le-length}
use Rattle.mr_lex.specs.Places.{line_of, column_of}

-- a column is at most one more than the offset
pub column_of-le : (text : List ℕ) (at : ℕ) → column_of text at ≤ at + 1
column_of-le text at = omega (arith, suffix_len-le-length is_inline (take at text), length-take at text)

-- behind a byte in the line
line_of-inline : (text : List ℕ) (at : ℕ) → at < length text → is_inline (get_or text at 0) ≡ true → line_of text (at + 1) ≡ line_of text at
line_of-inline text at within inline =
    ap (λ n. 1 + n) (count_by_more_no (λ b. eqb b 10) text at 0 within (not-true _ inline))

column_of-inline : (text : List ℕ) (at : ℕ) → at < length text → is_inline (get_or text at 0) ≡ true → column_of text (at + 1) ≡ column_of text at + 1
column_of-inline text at within inline =
    let same : at + 1 - 1 ≡ at = omega arith in
    let step : suffix_len is_inline (take (at + 1) text) ≡ 1 + suffix_len is_inline (take (at + 1 - 1) text) =
    suffix_len-take_yes is_inline text (at + 1) 0 (omega arith) (omega arith) (ap (λ i. is_inline (get_or text i 0)) same ∙ inline) in
    omega (arith, step, ap (λ i. suffix_len is_inline (take i text)) same)

-- behind a line feed
pub line_of-feed : (text : List ℕ) (at : ℕ) → at < length text → is_inline (get_or text at 0) ≡ false → line_of text (at + 1) ≡ line_of text at + 1
line_of-feed text at within feed =
    omega (arith, count_by_more_yes (λ b. eqb b 10) text at 0 within (not-false _ feed))

pub column_of-feed : (text : List ℕ) (at : ℕ) → at < length text → is_inline (get_or text at 0) ≡ false → column_of text (at + 1) ≡ 1
column_of-feed text at within feed =
    let same : at + 1 - 1 ≡ at = omega arith in
    ap (λ n. 1 + n) (suffix_len-take_no is_inline text (at + 1) 0 (omega arith) (omega arith) (ap (λ i. is_inline (get_or text i 0)) same ∙ feed))

-- behind bytes in the line
pub record StaysInLine (text : List ℕ) (at len : ℕ) : Type 0 where
  pub line : line_of text (at + len) ≡ line_of text at
  pub col : column_of text (at + len) ≡ column_of text at + len

pub stays_in_line : (text : List ℕ) (at len : ℕ) → at + len ≤ length text → AllByRecursion (λ b. IsTrue (is_inline b)) (take len (drop at text)) → StaysInLine text at len
stays_in_line text at zero within inline = record {
  line = ap (line_of text) (add-zero at);
  col = ap (column_of text) (add-zero at) ∙ sym (add-zero (column_of text at));
}
stays_in_line text at (suc len) within inline =
    let start : at < length text = omega arith in
    let parts : AllByRecursion (λ b. IsTrue (is_inline b)) (take (suc len) (get_or text at 0 ∷ drop (at + 1) text)) =
    subst (λ bytes. AllByRecursion (λ b. IsTrue (is_inline b)) (take (suc len) bytes)) (drop_more text at 0 start) inline in
    let more = stays_in_line text (at + 1) len (omega arith) parts.1 in
    let place : at + suc len ≡ at + 1 + len = omega arith in
    record {
      line = ap (line_of text) place ∙ more.line ∙ line_of-inline text at start parts.0;
      col = ap (column_of text) place ∙ more.col ∙ omega (arith, column_of-inline text at start parts.0);
    }

-- bytes of which the first is no line feed stay in the line
pub inline_stays : (text : List ℕ) (at len : ℕ) → at + len ≤ length text → 0 < len → IsOneLine (slice_range text at (at + len)) → is_inline (get_or text at 0) ≡ true → StaysInLine text at len
inline_stays text at len within some one_line inline =
    ⊎_elim
    (λ (single : length (slice_range text at (at + len)) ≡ 1).
    let one : len ≡ 1 = omega (arith, single, length-take (at + len - at) (drop at text), length-drop at text) in
    subst (StaysInLine text at) (sym one) (record {
      line = line_of-inline text at (omega arith) inline;
      col = column_of-inline text at (omega arith) inline;
    }))
    (λ (each : AllByRecursion (λ b. IsTrue (is_inline b)) (slice_range text at (at + len))).
    let whole : at + len - at ≡ len = omega arith in
    stays_in_line text at len within (subst (λ n. AllByRecursion (λ b. IsTrue (is_inline b)) (take n (drop at text))) whole each))
    one_line

first_inline : (text : List ℕ) (at n : ℕ) → at < length text → AllByRecursion (λ b. IsTrue (is_inline b)) (take (suc n) (drop at text)) → is_inline (get_or text at 0) ≡ true
first_inline text at n within each =
    let parts : AllByRecursion (λ b. IsTrue (is_inline b)) (take (suc n) (get_or text at 0 ∷ drop (at + 1) text)) =
    subst (λ bytes. AllByRecursion (λ b. IsTrue (is_inline b)) (take (suc n) bytes)) (drop_more text at 0 within) each in
    parts.0

-- bytes of which the first is a line feed are no more
pub feed_alone : (text : List ℕ) (at len : ℕ) → at + len ≤ length text → 0 < len → IsOneLine (slice_range text at (at + len)) → is_inline (get_or text at 0) ≡ false → len ≡ 1
feed_alone text at len within some one_line feed =
    ⊎_elim
    (λ (single : length (slice_range text at (at + len)) ≡ 1). omega (arith, single, length-take (at + len - at) (drop at text), length-drop at text))
    (λ (each : AllByRecursion (λ b. IsTrue (is_inline b)) (slice_range text at (at + len))).
    let whole : at + len - at ≡ suc (len - 1) = omega arith in
    let inline : is_inline (get_or text at 0) ≡ true =
    first_inline text at (len - 1) (omega arith) (subst (λ n. AllByRecursion (λ b. IsTrue (is_inline b)) (take n (drop at text))) whole each) in
    absurd (both_ways _ feed inline))
    one_line
