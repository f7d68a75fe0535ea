-- Texts that are tokens.
use Rattle.mr_grammar.proofs.Common.{ℕ, Bool, List, ◌≡◌, true, ◌&&◌, [], false, ◌∷◌, ◌||◌, inl, refl, inr, not, bytes_eq, ◌==◌, length, ◌^◌, arith, Some, if◌then◌else◌, ap, ◌∙◌, list_all, AllByRecursion, IsTrue, nat_lt, decimal, and_parts, bytes_eq-Decides, is_name, is_number, value_of, Table, looked_up, IsSymbol, IsPiece, Number}
use Rattle.std.specs.Char.{is_ascii_digit}
use Rattle.std.specs.List.{list_any}
use Rattle.std.proofs.lemmas.Bool.{and_right, and_from}
use Rattle.std.proofs.lemmas.List.Elements.{recursion_from_All}
use Rattle.std.proofs.lemmas.List.Sums.{AllPass-from_list_all}
use Rattle.mr_ast.specs.Words.{begins_name, is_in_name, reserved}
use Rattle.mr_lex.proofs.DecimalLaws.{decimal-number_of}
use Rattle.mr_lex.proofs.NumberLaws.{is_fine_number-true}
use Rattle.mr_lex.specs.Bytes.{begins, is_letter, is_word_byte, is_symbol, begins_arrow, ends_arrow, is_digit}
use Rattle.mr_lex.specs.Pieces.{IsFine}
use Rattle.mr_grammar.proofs.Tokens.TokenTexts.{IsTokenText}

all_pass : (test : ℕ → Bool) (bytes : List ℕ) → list_all test bytes ≡ true → AllByRecursion (λ b. IsTrue (test b)) bytes
all_pass test bytes pass = recursion_from_All (λ b. IsTrue (test b)) bytes (AllPass-from_list_all test bytes pass)

-- whether the text is a word
abbrev is_word_text : List ℕ → Bool
is_word_text text = begins is_letter text && list_all is_word_byte text

-- whether the text is a symbol
abbrev is_symbol_text : List ℕ → Bool
is_symbol_text [] = false
is_symbol_text (b ∷ []) = is_symbol b
is_symbol_text (b ∷ c ∷ []) = begins_arrow b && ends_arrow c
is_symbol_text (b ∷ c ∷ d ∷ text) = false

-- whether the text is a word or a symbol
abbrev pub is_fixed : List ℕ → Bool
is_fixed text = is_word_text text || is_symbol_text text

word_token : (text : List ℕ) → is_word_text text ≡ true → IsTokenText text
word_token text word =
    let (first, all) = and_parts (begins is_letter text) (list_all is_word_byte text) word in
    inl (record { begun = first; within = all_pass is_word_byte text all; longest = refl })

symbol_token : (text : List ℕ) → is_symbol_text text ≡ true → IsSymbol text []
symbol_token [] symbol = absurd (cc)
symbol_token (b ∷ []) symbol = (symbol, and_right (begins_arrow b) false refl)
symbol_token (b ∷ c ∷ []) symbol = and_parts (begins_arrow b) (ends_arrow c) symbol
symbol_token (b ∷ c ∷ d ∷ text) symbol = absurd (cc)

pub fixed_token : (text : List ℕ) → is_fixed text ≡ true → IsTokenText text
fixed_token text fixed = go (is_word_text text) refl fixed
  where
    go : (word : Bool) → is_word_text text ≡ word → (word || is_symbol_text text) ≡ true → IsTokenText text
    go true word either = word_token text word
    go false none either = inr (inr (symbol_token text either))

pub name_token : (text : List ℕ) → is_name text ≡ true → IsTokenText text
unfolding is_name
name_token [] name = absurd (cc)
name_token (b ∷ text) name =
    let (front, free) = and_parts (begins_name b && list_all is_in_name (b ∷ text)) (not (list_any (bytes_eq (b ∷ text)) reserved)) name in
    word_token (b ∷ text) front

-- the text of a number
number_piece : (text : List ℕ) → is_number text ≡ true → IsPiece (Number text) [] × IsFine (Number text)
unfolding is_number
number_piece [] number = absurd (cc)
number_piece (b ∷ text) number =
    let plain = not (b == 48) || length (b ∷ text) == 1 in
    let small = nat_lt (value_of (b ∷ text)) (2 ^ 128) in
    let (front, last) = and_parts (is_ascii_digit b && list_all is_ascii_digit (b ∷ text) && plain) small number in
    let (digits, third) = and_parts (is_ascii_digit b && list_all is_ascii_digit (b ∷ text)) plain front in
    let (first, all) = and_parts (is_ascii_digit b) (list_all is_ascii_digit (b ∷ text)) digits in
    (record { begun = first; within = all_pass is_digit (b ∷ text) all; longest = refl }, is_fine_number-true (b ∷ text) (and_from plain small third last))

pub number_token : (text : List ℕ) → is_number text ≡ true → IsTokenText text
number_token text number = inr (inl (number_piece text number))

-- a number is printed as it was written
pub number_is : (text : List ℕ) → is_number text ≡ true → decimal (value_of text) ≡ text
unfolding is_number
number_is [] number = absurd (cc)
number_is (b ∷ text) number =
    let piece = number_piece (b ∷ text) number in decimal-number_of (b ∷ text) (omega arith) piece.0.within piece.1

-- what passes a test with each word of a table passes it where it stands for something
pub table_passes : {X : Type 0} (test : List ℕ → Bool) (table : Table X) (text : List ℕ) (x : X) → list_all (λ entry. test entry.0) table ≡ true
    → looked_up table text ≡ Some x → test text ≡ true
table_passes test [] text x all found = absurd (cc)
table_passes {X} test (entry ∷ entries) text x all found =
    let (first, rest) = and_parts (test entry.0) (list_all (λ (e : List ℕ × X). test e.0) entries) all in
    go (bytes_eq text entry.0) refl first (λ further. table_passes test entries text x rest further) found
  where
    go : (same : Bool) → bytes_eq text entry.0 ≡ same → test entry.0 ≡ true → (looked_up entries text ≡ Some x → test text ≡ true)
        → (if same then Some entry.1 else looked_up entries text) ≡ Some x → test text ≡ true
    go true same first rest found = ap test ((bytes_eq-Decides text entry.0).0 same) ∙ first
    go false differ first rest found = rest found
