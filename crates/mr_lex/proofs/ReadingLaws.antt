-- Reading gives the tokens of a text, or its first fault, and nothing else is either.
use Rattle.mr_lex.proofs.Common.{◌≡◌, ℕ, ◌-◌, ◌^◌, ◌<◌, ◌≤◌, true, cond, ◌⊎◌, inl, inr, ⊎_elim, List, [], ◌∷◌, ◌++◌, length, refl, sym, ap, ◌∙◌, subst, arith, Ok, Err, AllByRecursion, cond-true, cond-false, is_digit, begins, Piece, IsFine, Splits, row_of, Lexeme, Lexes, lexemes_from, fault_at, IsBadByte, IsBadNumber, IsFaulty, StopsAt, FirstFault, split_of, lexed}
use Rattle.std.proofs.Common.{ltb}
use Rattle.std.proofs.lemmas.Bool.{cases_lt, lt-ltb, le-ltb}
use Rattle.mr_lex.specs.Reading.{outcome_of}
use Rattle.mr_lex.specs.declared.token.TextFault.{TextFault}
use Rattle.mr_lex.proofs.ByteLaws.{begins_nothing}
use Rattle.mr_lex.proofs.SplitLaws.{Ends, split_of_row, Row, row_of_text}

-- the code of a fault
bad_number_digit : (digits behind : List ℕ) (b : ℕ) (rest : List ℕ) → b ∷ rest ≡ digits ++ behind → begins is_digit digits ≡ true → is_digit b ≡ true
bad_number_digit [] behind b rest whole begun = absurd (cc)
bad_number_digit (c ∷ digits) behind b rest whole begun = let same : b ≡ c = cc in ap is_digit same ∙ begun

code_of_fault : (b : ℕ) (rest : List ℕ) (code : ℕ) → IsFaulty (b ∷ rest) code → cond (is_digit b) 2 1 ≡ code
code_of_fault b rest code =
    ⊎_elim
    (λ (byte : (code ≡ 1) × IsBadByte (b ∷ rest)). cond-false (is_digit b) 2 1 (begins_nothing b byte.1.bad).digit ∙ sym byte.0)
    (λ (number : (code ≡ 2) × IsBadNumber (b ∷ rest)).
    cond-true (is_digit b) 2 1 (bad_number_digit number.1.digits number.1.behind b rest number.1.whole number.1.number.begun) ∙ sym number.0)

no_digits : (digits behind : List ℕ) → [] ≡ digits ++ behind → begins is_digit digits ≡ true → ⊥
no_digits [] behind whole begun = cc
no_digits (b ∷ digits) behind whole begun = cc

outcome_of_fault : (text : List ℕ) (pieces : List Piece) (rest : List ℕ) (code : ℕ) → IsFaulty rest code → outcome_of text (pieces, rest) ≡ Err (fault_at text (length text - length rest) code)
unfolding outcome_of
outcome_of_fault text pieces [] code faulty =
    ⊎_elim
    (λ (byte : (code ≡ 1) × IsBadByte []). absurd (omega (arith, byte.1.some)))
    (λ (number : (code ≡ 2) × IsBadNumber []). absurd (no_digits number.1.digits number.1.behind number.1.whole number.1.number.begun))
    faulty
outcome_of_fault text pieces (b ∷ rest) code faulty =
    ap (λ c. Err (fault_at text (length text - length (b ∷ rest)) c)) (code_of_fault b rest code faulty)

outcome_of_all : (text : List ℕ) (pieces : List Piece) → outcome_of text (pieces, []) ≡ Ok (lexemes_from text 0 pieces)
unfolding outcome_of
outcome_of_all text pieces = refl

lexed_long : (text : List ℕ) → 2 ^ 20 < length text → lexed text ≡ Err (record { line = 1; col = 1; code = 3 })
unfolding lexed
lexed_long text long = cond-true (ltb (2 ^ 20) (length text)) _ _ (lt-ltb (2 ^ 20) (length text) long)

lexed_short : (text : List ℕ) (pieces : List Piece) (rest : List ℕ) → length text ≤ 2 ^ 20 → Splits text pieces rest → AllByRecursion IsFine pieces → Ends rest → lexed text ≡ outcome_of text (pieces, rest)
unfolding lexed
lexed_short text pieces rest short split fine ends =
    let room : length (row_of pieces rest) ≤ length text = omega (arith, ap length split.whole) in
    cond-false (ltb (2 ^ 20) (length text)) _ _ (le-ltb (2 ^ 20) (length text) short)
    ∙ ap (outcome_of text) (ap (split_of (length text)) split.whole ∙ split_of_row (length text) pieces rest split.each fine ends room)

-- the tokens of a text are the ones that are read
pub lexes_lexed : (text : List ℕ) (lexemes : List Lexeme) → Lexes text lexemes → lexed text ≡ Ok lexemes
lexes_lexed text lexemes lexes =
    lexed_short text lexes.pieces [] lexes.short lexes.split lexes.fine (inl refl)
    ∙ outcome_of_all text lexes.pieces
    ∙ ap Ok (sym lexes.listed)

-- the first fault of a text is the one that is read
stop_lexed : (text : List ℕ) (fault : TextFault) → StopsAt text fault → lexed text ≡ Err fault
stop_lexed text fault stop =
    lexed_short text stop.pieces stop.rest stop.short stop.split stop.fine (inr (fault.code, stop.faulty))
    ∙ outcome_of_fault text stop.pieces stop.rest fault.code stop.faulty
    ∙ ap Err (sym stop.placed)

pub fault_lexed : (text : List ℕ) (fault : TextFault) → FirstFault text fault → lexed text ≡ Err fault
fault_lexed text fault =
    ⊎_elim
    (λ (long : (2 ^ 20 < length text) × (fault ≡ record { line = 1; col = 1; code = 3 })). lexed_long text long.0 ∙ ap Err (sym long.1))
    (stop_lexed text fault)

-- each text has tokens or a first fault
tokens_or_stop : (text : List ℕ) → length text ≤ 2 ^ 20 → Row text → ((lexemes : List Lexeme) × Lexes text lexemes) ⊎ ((fault : TextFault) × FirstFault text fault)
tokens_or_stop text short row =
    ⊎_elim
    (λ (empty : row.rest ≡ []). inl (
      lexemes_from text 0 row.pieces,
      record {
        short = short;
        pieces = row.pieces;
        split = subst (Splits text row.pieces) empty row.split;
        fine = row.fine;
        listed = refl;
      },
    ))
    (λ (fault : (code : ℕ) × IsFaulty row.rest code). inr (
      fault_at text (length text - length row.rest) fault.0,
      inr (record {
        short = short;
        pieces = row.pieces;
        rest = row.rest;
        split = row.split;
        fine = row.fine;
        faulty = fault.1;
        placed = refl;
      }),
    ))
    row.ends

pub tokens_or_fault : (text : List ℕ) → ((lexemes : List Lexeme) × Lexes text lexemes) ⊎ ((fault : TextFault) × FirstFault text fault)
tokens_or_fault text =
    ⊎_elim
    (λ long. inr (record { line = 1; col = 1; code = 3 }, inl (long, refl)))
    (λ short. tokens_or_stop text short (row_of_text (length text) text (omega arith)))
    (cases_lt (2 ^ 20) (length text))

-- what is read is the tokens
pub lexed_lexes : (text : List ℕ) (lexemes : List Lexeme) → lexed text ≡ Ok lexemes → Lexes text lexemes
lexed_lexes text lexemes read =
    ⊎_elim
    (λ (tokens : (others : List Lexeme) × Lexes text others).
    let e = lexes_lexed text tokens.0 tokens.1 in
    let same : tokens.0 ≡ lexemes = cc in
    subst (Lexes text) same tokens.1)
    (λ (fault : (f : TextFault) × FirstFault text f). let e = fault_lexed text fault.0 fault.1 in absurd (cc))
    (tokens_or_fault text)

-- what is read is the first fault
pub lexed_fault : (text : List ℕ) (fault : TextFault) → lexed text ≡ Err fault → FirstFault text fault
lexed_fault text fault read =
    ⊎_elim
    (λ (tokens : (others : List Lexeme) × Lexes text others). let e = lexes_lexed text tokens.0 tokens.1 in absurd (cc))
    (λ (other : (f : TextFault) × FirstFault text f).
    let e = fault_lexed text other.0 other.1 in
    let same : other.0 ≡ fault = cc in
    subst (FirstFault text) same other.1)
    (tokens_or_fault text)
