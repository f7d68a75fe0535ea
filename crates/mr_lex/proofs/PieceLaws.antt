-- The piece at the front of a text: which one it is, and that there is only one.
use Rattle.mr_lex.proofs.Common.{◌≡◌, ℕ, ◌<◌, Bool, true, false, cond, ◌⊎◌, inl, inr, ⊎_elim, List, [], ◌∷◌, ◌++◌, length, get_or, refl, sym, ap, ◌∙◌, subst, arith, IsTrue, Ok, Err, AllByRecursion, take_while, cond-true, cond-false, cases_Bool, and_right, false_from_ne_true, both_ways, is_blank, is_inline, begins_comment, is_letter, is_digit, is_word_byte, is_symbol, begins_arrow, ends_arrow, begins, IsFineNumber, Piece, Blank, Comment, Word, Number, Symbol, spelling_of, IsRun, IsPiece, IsFine, IsBadByte, IsBadNumber, IsFaulty, IsOneLine, is_fine_number, number_at, symbol_at, piece_at}
use Rattle.std.proofs.Common.{◌&&◌}
use Rattle.std.proofs.lemmas.Bool.{eqb-true, and_from, and_left, and_parts}
use Rattle.mr_lex.proofs.ByteLaws.{letter_no_blank, letter_no_comment, digit_no_blank, digit_no_comment, digit_no_letter, symbol_no_blank, symbol_no_comment, symbol_no_letter, symbol_no_digit, arrow_symbol, letter_word_byte, comment_inline, word_byte_inline, digit_inline, arrow_inline, arrow_end_inline, begins_nothing, nothing_begins}
use Rattle.mr_lex.proofs.NumberLaws.{is_fine_number-true, fine_is_fine_number}
use Rattle.mr_lex.proofs.RunLaws.{take_while_run, take_while_is_run}

run_some : (first : ℕ → Bool) (bytes : List ℕ) → begins first bytes ≡ true → 0 < length bytes
run_some first [] begun = absurd (cc)
run_some first (b ∷ bytes) begun = omega arith

-- where a digit stands, a number is read
piece_at_digit : (b : ℕ) (bytes : List ℕ) → is_digit b ≡ true → piece_at (b ∷ bytes) ≡ number_at (b ∷ bytes)
unfolding piece_at
piece_at_digit b bytes digit =
    cond-false (is_blank b) _ _ (digit_no_blank b digit)
    ∙ cond-false (begins_comment b) _ _ (digit_no_comment b digit)
    ∙ cond-false (is_letter b) _ _ (digit_no_letter b digit)
    ∙ cond-true (is_digit b) _ _ digit

-- where a symbol stands, a symbol is read
piece_at_symbol : (b : ℕ) (bytes : List ℕ) → is_symbol b ≡ true → piece_at (b ∷ bytes) ≡ symbol_at (b ∷ bytes)
unfolding piece_at
piece_at_symbol b bytes symbol =
    cond-false (is_blank b) _ _ (symbol_no_blank b symbol)
    ∙ cond-false (begins_comment b) _ _ (symbol_no_comment b symbol)
    ∙ cond-false (is_letter b) _ _ (symbol_no_letter b symbol)
    ∙ cond-false (is_digit b) _ _ (symbol_no_digit b symbol)

-- the number of a run of digits
number_at_run : (digits behind : List ℕ) → IsRun is_digit is_digit digits behind → number_at (digits ++ behind) ≡ cond (is_fine_number digits) (Ok (Number digits)) (Err 2)
unfolding number_at
number_at_run digits behind run =
    ap (λ bytes. cond (is_fine_number bytes) (Ok (Number bytes)) (Err 2)) (take_while_run is_digit digits behind run.within run.longest)

-- past the end no `>` stands
begins_arrow_end : (behind : List ℕ) → begins ends_arrow behind ≡ ends_arrow (get_or behind 0 0)
begins_arrow_end [] = refl
begins_arrow_end (b ∷ behind) = refl

-- a piece that stands at the front is the one that is read
pub piece_at_piece : (piece : Piece) (behind : List ℕ) → IsPiece piece behind → IsFine piece → piece_at (spelling_of piece ++ behind) ≡ Ok piece
unfolding piece_at symbol_at
piece_at_piece (Blank b) behind blank fine = cond-true (is_blank b) _ _ blank
piece_at_piece (Comment []) behind run fine = absurd (let e = run.begun in cc)
piece_at_piece (Comment (b ∷ bytes)) behind run fine =
    let is : b ≡ 35 = eqb-true b 35 run.begun in
    cond-false (is_blank b) _ _ (ap is_blank is)
    ∙ cond-true (begins_comment b) _ _ run.begun
    ∙ ap (λ text. Ok (Comment text)) (take_while_run is_inline (b ∷ bytes) behind run.within run.longest)
piece_at_piece (Word []) behind run fine = absurd (let e = run.begun in cc)
piece_at_piece (Word (b ∷ bytes)) behind run fine =
    cond-false (is_blank b) _ _ (letter_no_blank b run.begun)
    ∙ cond-false (begins_comment b) _ _ (letter_no_comment b run.begun)
    ∙ cond-true (is_letter b) _ _ run.begun
    ∙ ap (λ text. Ok (Word text)) (take_while_run is_word_byte (b ∷ bytes) behind run.within run.longest)
piece_at_piece (Number []) behind run fine = absurd (let e = run.begun in cc)
piece_at_piece (Number (b ∷ bytes)) behind run fine =
    piece_at_digit b (bytes ++ behind) run.begun
    ∙ number_at_run (b ∷ bytes) behind run
    ∙ cond-true (is_fine_number (b ∷ bytes)) _ _ (fine_is_fine_number (b ∷ bytes) fine)
piece_at_piece (Symbol []) behind symbol fine = absurd symbol
piece_at_piece (Symbol (b ∷ [])) behind symbol fine =
    piece_at_symbol b behind symbol.0
    ∙ cond-false (begins_arrow b && ends_arrow (get_or behind 0 0)) _ _ (ap (λ e. begins_arrow b && e) (sym (begins_arrow_end behind)) ∙ symbol.1)
    ∙ cond-true (is_symbol b) _ _ symbol.0
piece_at_piece (Symbol (b ∷ c ∷ [])) behind symbol fine =
    piece_at_symbol b (c ∷ behind) (arrow_symbol b symbol.0)
    ∙ cond-true (begins_arrow b && ends_arrow c) _ _ (and_from _ _ symbol.0 symbol.1)
piece_at_piece (Symbol (b ∷ c ∷ d ∷ bytes)) behind symbol fine = absurd symbol

-- a byte that begins nothing is the fault that is read
piece_at_bad_byte : (rest : List ℕ) → IsBadByte rest → piece_at rest ≡ Err 1
unfolding piece_at symbol_at
piece_at_bad_byte [] bad = absurd (omega (arith, bad.some))
piece_at_bad_byte (b ∷ rest) bad =
    let none = begins_nothing b bad.bad in
    cond-false (is_blank b) _ _ none.blank
    ∙ cond-false (begins_comment b) _ _ none.comment
    ∙ cond-false (is_letter b) _ _ none.letter
    ∙ cond-false (is_digit b) _ _ none.digit
    ∙ cond-false (begins_arrow b && ends_arrow (get_or rest 0 0)) _ _ (and_left _ _ none.arrow)
    ∙ cond-false (is_symbol b) _ _ none.symbol

-- so is a number that a text may not hold
piece_at_bad_number : (digits behind : List ℕ) → IsRun is_digit is_digit digits behind → ¬ IsFineNumber digits → piece_at (digits ++ behind) ≡ Err 2
piece_at_bad_number [] behind run bad = absurd (let e = run.begun in cc)
piece_at_bad_number (b ∷ digits) behind run bad =
    piece_at_digit b (digits ++ behind) run.begun
    ∙ number_at_run (b ∷ digits) behind run
    ∙ cond-false (is_fine_number (b ∷ digits)) _ _ (false_from_ne_true _ (λ fine. bad (is_fine_number-true (b ∷ digits) fine)))

-- the fault that stands at the front is the one that is read
pub piece_at_fault : (rest : List ℕ) (code : ℕ) → IsFaulty rest code → piece_at rest ≡ Err code
piece_at_fault rest code =
    ⊎_elim
    (λ (byte : (code ≡ 1) × IsBadByte rest). piece_at_bad_byte rest byte.1 ∙ ap Err (sym byte.0))
    (λ (number : (code ≡ 2) × IsBadNumber rest).
    ap piece_at number.1.whole ∙ piece_at_bad_number number.1.digits number.1.behind number.1.number number.1.bad ∙ ap Err (sym number.0))

-- a piece stands at the front
pub record BeginsWith (rest : List ℕ) (piece : Piece) (behind : List ℕ) : Type 0 where
  pub whole : rest ≡ spelling_of piece ++ behind
  pub well_formed : IsPiece piece behind
  pub fine : IsFine piece

-- a piece or a fault stands at the front
abbrev pub HasFront : List ℕ → Type 0
HasFront rest = ((piece : Piece) × (behind : List ℕ) × BeginsWith rest piece behind) ⊎ ((code : ℕ) × IsFaulty rest code)

front_number : (b : ℕ) (rest : List ℕ) → is_digit b ≡ true → HasFront (b ∷ rest)
front_number b rest digit =
    let run = take_while_is_run is_digit is_digit (b ∷ rest) (λ c passes. passes) digit in
    ⊎_elim
    (λ fine. inl (Number (take_while is_digit (b ∷ rest)), run.0, record { whole = run.1; well_formed = run.2; fine = is_fine_number-true _ fine }))
    (λ bad. inr (
      2,
      inr (
        refl,
        record {
          digits = take_while is_digit (b ∷ rest);
          behind = run.0;
          whole = run.1;
          number = run.2;
          bad = λ fine. both_ways _ bad (fine_is_fine_number _ fine);
        },
      ),
    ))
    (cases_Bool (is_fine_number (take_while is_digit (b ∷ rest))))

front_symbol : (b : ℕ) (rest : List ℕ) → is_symbol b ≡ true → HasFront (b ∷ rest)
front_symbol b [] symbol = inl (Symbol (b ∷ []), [], record { whole = refl; well_formed = (symbol, and_right (begins_arrow b) false refl); fine = tt })
front_symbol b (c ∷ rest) symbol =
    ⊎_elim
    (λ arrow. inl (Symbol (b ∷ c ∷ []), rest, record { whole = refl; well_formed = and_parts (begins_arrow b) (ends_arrow c) arrow; fine = tt }))
    (λ none. inl (Symbol (b ∷ []), c ∷ rest, record { whole = refl; well_formed = (symbol, none); fine = tt }))
    (cases_Bool (begins_arrow b && ends_arrow c))

-- each text that isn't empty has a piece or a fault at its front
pub front_of : (rest : List ℕ) → 0 < length rest → HasFront rest
front_of [] some = absurd (omega arith)
front_of (b ∷ rest) some =
    ⊎_elim (λ blank. inl (Blank b, rest, record { whole = refl; well_formed = blank; fine = tt }))
    (λ no_blank. ⊎_elim
    (λ comment.
    let run = take_while_is_run is_inline begins_comment (b ∷ rest) comment_inline comment in
    inl (Comment (take_while is_inline (b ∷ rest)), run.0, record { whole = run.1; well_formed = run.2; fine = tt }))
    (λ no_comment. ⊎_elim
    (λ letter.
    let run = take_while_is_run is_word_byte is_letter (b ∷ rest) letter_word_byte letter in
    inl (Word (take_while is_word_byte (b ∷ rest)), run.0, record { whole = run.1; well_formed = run.2; fine = tt }))
    (λ no_letter. ⊎_elim (front_number b rest)
    (λ no_digit. ⊎_elim (front_symbol b rest)
    (λ no_symbol. inr (1, inl (refl, record { some = omega arith; bad = nothing_begins b no_blank no_comment no_letter no_digit no_symbol })))
    (cases_Bool (is_symbol b)))
    (cases_Bool (is_digit b)))
    (cases_Bool (is_letter b)))
    (cases_Bool (begins_comment b)))
    (cases_Bool (is_blank b))

-- a piece has a byte at least
pub spelling_some : (piece : Piece) (behind : List ℕ) → IsPiece piece behind → 0 < length (spelling_of piece)
spelling_some (Blank b) behind blank = omega arith
spelling_some (Comment bytes) behind run = run_some _ bytes run.begun
spelling_some (Word bytes) behind run = run_some _ bytes run.begun
spelling_some (Number bytes) behind run = run_some _ bytes run.begun
spelling_some (Symbol []) behind symbol = absurd symbol
spelling_some (Symbol (b ∷ bytes)) behind symbol = omega arith

-- the piece that is read stands at the front
pub piece_at_ok : (rest : List ℕ) (piece : Piece) → 0 < length rest → piece_at rest ≡ Ok piece → (behind : List ℕ) × BeginsWith rest piece behind
piece_at_ok rest piece some read =
    ⊎_elim
    (λ (front : (other : Piece) × (behind : List ℕ) × BeginsWith rest other behind).
    let e = ap piece_at front.2.whole ∙ piece_at_piece front.0 front.1 front.2.well_formed front.2.fine in
    let same : front.0 ≡ piece = cc in
    (front.1, subst (λ p. BeginsWith rest p front.1) same front.2))
    (λ (fault : (code : ℕ) × IsFaulty rest code). let e = piece_at_fault rest fault.0 fault.1 in absurd (cc))
    (front_of rest some)

-- the fault that is read stands at the front
pub piece_at_err : (rest : List ℕ) (code : ℕ) → 0 < length rest → piece_at rest ≡ Err code → IsFaulty rest code
piece_at_err rest code some read =
    ⊎_elim
    (λ (front : (piece : Piece) × (behind : List ℕ) × BeginsWith rest piece behind).
    let e = ap piece_at front.2.whole ∙ piece_at_piece front.0 front.1 front.2.well_formed front.2.fine in absurd (cc))
    (λ (fault : (other : ℕ) × IsFaulty rest other).
    let e = piece_at_fault rest fault.0 fault.1 in
    let same : fault.0 ≡ code = cc in
    subst (IsFaulty rest) same fault.1)
    (front_of rest some)

inline_within : (each : ℕ → Bool) (bytes : List ℕ) → ((b : ℕ) → each b ≡ true → is_inline b ≡ true) → AllByRecursion (λ b. IsTrue (each b)) bytes → AllByRecursion (λ b. IsTrue (is_inline b)) bytes
inline_within each [] passes within = tt
inline_within each (b ∷ bytes) passes within = (passes b within.0, inline_within each bytes passes within.1)

-- only a blank holds a line feed, alone
pub piece_one_line : (piece : Piece) (behind : List ℕ) → IsPiece piece behind → IsOneLine (spelling_of piece)
piece_one_line (Blank b) behind blank = inl refl
piece_one_line (Comment bytes) behind run = inr run.within
piece_one_line (Word bytes) behind run = inr (inline_within is_word_byte bytes word_byte_inline run.within)
piece_one_line (Number bytes) behind run = inr (inline_within is_digit bytes digit_inline run.within)
piece_one_line (Symbol []) behind symbol = absurd symbol
piece_one_line (Symbol (b ∷ [])) behind symbol = inl refl
piece_one_line (Symbol (b ∷ c ∷ [])) behind symbol = inr (arrow_inline b symbol.0, (arrow_end_inline c symbol.1, tt))
piece_one_line (Symbol (b ∷ c ∷ d ∷ bytes)) behind symbol = absurd symbol
