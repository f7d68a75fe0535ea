-- A text in which blanks stand between words is read as these words.
use Rattle.mr_grammar.proofs.Common.{List, ℕ, ◌≡◌, true, [], ◌∷◌, arith, subst, sym, refl, ◌++◌, ap, inl, inr, append_assoc, ◌∙◌, map, ◌+◌, length, ◌≤◌, ◌^◌, AllByRecursion, flat_map, Ok, nat_tests, map-append, Texts, IsSymbol, Piece, Blank, Number, Symbol, IsPiece, spelling_of, lexemes_at, lexemes_from, Lexeme}
use Rattle.std.specs.List.{join_with_byte}
use Rattle.mr_ast.specs.Canon.{text_of_line, text_of_lines}
use Rattle.mr_lex.proofs.ReadingLaws.{lexes_lexed}
use Rattle.mr_lex.specs.Bytes.{is_blank}
use Rattle.mr_lex.specs.Pieces.{Comment, Word, Splits, IsFine}
use Rattle.mr_lex.specs.Reading.{lexed}
use Rattle.mr_grammar.proofs.Tokens.TokenTexts.{IsTokenText}
use Rattle.mr_grammar.proofs.Walk.Rows.{all_parts}

-- ---- blanks end each token

symbol_before : (text : List ℕ) (b : ℕ) (behind : List ℕ) → is_blank b ≡ true → IsSymbol text [] → IsSymbol text (b ∷ behind)
symbol_before [] b behind blank symbol = symbol
symbol_before (c ∷ []) b behind blank symbol = (symbol.0, grind (arith, nat_tests, blank))
symbol_before (c ∷ d ∷ []) b behind blank symbol = symbol
symbol_before (c ∷ d ∷ e ∷ text) b behind blank symbol = symbol

-- ---- rows of pieces

-- the text of a piece that is a token
abbrev token_texts : Piece → Texts
token_texts (Blank b) = []
token_texts (Comment bytes) = []
token_texts (Word bytes) = bytes ∷ []
token_texts (Number bytes) = bytes ∷ []
token_texts (Symbol bytes) = bytes ∷ []

-- the text is made of pieces, and their tokens are these words
record IsMadeOf (text : List ℕ) (words : Texts) : Type 0 where
  pieces : List Piece
  split : Splits text pieces []
  fine : AllByRecursion IsFine pieces
  tokens : flat_map token_texts pieces ≡ words

made_of_same : {text other : List ℕ} {words : Texts} → text ≡ other → IsMadeOf other words → IsMadeOf text words
made_of_same {words} same made = subst (λ bytes. IsMadeOf bytes words) (sym same) made

made_of_nothing : IsMadeOf [] []
made_of_nothing = record { pieces = []; split = record { whole = refl; each = tt }; fine = tt; tokens = refl }

piece_before : {text : List ℕ} {words : Texts} (piece : Piece) → IsPiece piece text → IsFine piece → IsMadeOf text words → IsMadeOf (spelling_of piece ++ text) (token_texts piece ++ words)
piece_before piece well_formed fine made = record {
  pieces = piece ∷ made.pieces;
  split = record {
    whole = ap (λ bytes. spelling_of piece ++ bytes) made.split.whole;
    each = (subst (IsPiece piece) made.split.whole well_formed, made.split.each);
  };
  fine = (fine, made.fine);
  tokens = ap (λ words. token_texts piece ++ words) made.tokens;
}

blank_before : {text : List ℕ} {words : Texts} (b : ℕ) → is_blank b ≡ true → IsMadeOf text words → IsMadeOf (b ∷ text) words
blank_before b blank made = piece_before (Blank b) blank tt made

-- a token, and a blank behind it
token_before : {text : List ℕ} {words : Texts} (token : List ℕ) (b : ℕ) → is_blank b ≡ true → IsTokenText token → IsMadeOf text words → IsMadeOf (token ++ b ∷ text) (token ∷ words)
token_before token b blank (inl word) made =
    piece_before (Word token) (record { begun = word.begun; within = word.within; longest = grind (arith, nat_tests, blank) }) tt (blank_before b blank made)
token_before token b blank (inr (inl number)) made =
    piece_before (Number token) (record { begun = number.0.begun; within = number.0.within; longest = grind (arith, nat_tests, blank) }) number.1 (blank_before b blank made)
token_before {text} token b blank (inr (inr symbol)) made =
    piece_before (Symbol token) (symbol_before token b text blank symbol) tt (blank_before b blank made)

-- ---- lines

abbrev AreTokens : Texts → Type 0
AreTokens words = AllByRecursion IsTokenText words

line_before : {text : List ℕ} {words : Texts} (line : Texts) → AreTokens line → IsMadeOf text words → IsMadeOf (text_of_line line ++ text) (line ++ words)
line_before [] tokens made = blank_before 10 refl made
line_before {text} (word ∷ []) tokens made =
    made_of_same (append_assoc word (10 ∷ []) text) (token_before word 10 refl tokens.0 made)
line_before {text} (word ∷ next ∷ line) tokens made =
    let rest = join_with_byte 32 (next ∷ line) in
    made_of_same
    (append_assoc (word ++ 32 ∷ rest) (10 ∷ []) text ∙ append_assoc word (32 ∷ rest) (10 ∷ text) ∙ ap (λ bytes. word ++ 32 ∷ bytes) (sym (append_assoc rest (10 ∷ []) text)))
    (token_before word 32 refl tokens.0 (line_before (next ∷ line) tokens.1 made))

lines_made : (lines : List Texts) → AreTokens (flat_map (λ line. line) lines) → IsMadeOf (text_of_lines lines) (flat_map (λ line. line) lines)
lines_made [] tokens = made_of_nothing
lines_made (line ∷ lines) tokens =
    let (front, rest) = all_parts IsTokenText line (flat_map (λ line. line) lines) tokens in line_before line front (lines_made lines rest)

-- ---- what is read

texts_at : (text : List ℕ) (at : ℕ) (piece : Piece) → map (λ l. l.text) (lexemes_at text at piece) ≡ token_texts piece
texts_at text at (Blank b) = refl
texts_at text at _ = refl

texts_from : (text : List ℕ) (at : ℕ) (pieces : List Piece) → map (λ l. l.text) (lexemes_from text at pieces) ≡ flat_map token_texts pieces
texts_from text at [] = refl
texts_from text at (piece ∷ pieces) =
    let next = at + length (spelling_of piece) in
    map-append (λ (l : Lexeme). l.text) (lexemes_at text at piece) (lexemes_from text next pieces)
    ∙ (λ i. texts_at text at piece i ++ texts_from text next pieces i)

-- Lines of tokens, one space between two tokens and LF behind each line, are read as these tokens.
pub words_are_lexed : (lines : List Texts) → AreTokens (flat_map (λ line. line) lines) → length (text_of_lines lines) ≤ 2 ^ 20
    → (lexemes : List Lexeme) × (lexed (text_of_lines lines) ≡ Ok lexemes) × (map (λ l. l.text) lexemes ≡ flat_map (λ line. line) lines)
words_are_lexed lines tokens short =
    let made = lines_made lines tokens in
    let lexemes = lexemes_from (text_of_lines lines) 0 made.pieces in (
      lexemes,
      lexes_lexed (text_of_lines lines) lexemes (record { short = short; pieces = made.pieces; split = made.split; fine = made.fine; listed = refl }),
      texts_from (text_of_lines lines) 0 made.pieces ∙ made.tokens,
    )
