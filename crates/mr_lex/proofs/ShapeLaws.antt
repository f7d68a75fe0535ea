-- The bytes of a lexeme, by its kind.
use Rattle.mr_lex.proofs.Common.{◌≡◌, ℕ, ◌+◌, false, List, [], ◌∷◌, ◌++◌, length, refl, sym, subst, IsTrue, AllByRecursion, and_right, is_letter, is_word_byte, begins_arrow, begins, number_of, IsFineNumber, Piece, Blank, Comment, Word, Number, Symbol, spelling_of, IsPiece, IsFine, row_of, ArePieces, Lexeme, lexemes_at, lexemes_from, Lexes}
use Rattle.std.specs.Fmt.{decimal}
use Rattle.mr_lex.specs.Pieces.{IsSymbol}
use Rattle.mr_lex.specs.declared.token.TokenKind.{TokenKind}
use Rattle.mr_lex.specs.declared.token.TokenKind.TheVariants as kinds
use Rattle.mr_lex.proofs.DecimalLaws.{AreDigits, decimal-number_of}
use Rattle.mr_lex.proofs.PieceLaws.{spelling_some}

-- a letter and then letters and digits
pub record IsWord (bytes : List ℕ) : Type 0 where
  pub begun : IsTrue (begins is_letter bytes)
  pub within : AllByRecursion (λ b. IsTrue (is_word_byte b)) bytes

-- a number of at most 128 bits, as it is written
pub record IsNumber (bytes : List ℕ) : Type 0 where
  pub digits : AreDigits bytes
  pub fine : IsFineNumber bytes
  pub written : decimal (number_of bytes) ≡ bytes

abbrev pub HasShape : TokenKind → List ℕ → Type 0
HasShape kinds.Word bytes = IsWord bytes
HasShape kinds.Number bytes = IsNumber bytes
HasShape kinds.Symbol bytes = IsSymbol bytes []

-- the bytes of the lexeme are those of its kind
abbrev pub IsShaped : Lexeme → Type 0
IsShaped lexeme = HasShape lexeme.kind lexeme.text

symbol_alone : (bytes behind : List ℕ) → IsSymbol bytes behind → IsSymbol bytes []
symbol_alone [] behind symbol = symbol
symbol_alone (b ∷ []) behind symbol = (symbol.0, and_right (begins_arrow b) false refl)
symbol_alone (b ∷ c ∷ []) behind symbol = symbol
symbol_alone (b ∷ c ∷ d ∷ bytes) behind symbol = symbol

shaped_at : (text : List ℕ) (at : ℕ) (piece : Piece) (behind : List ℕ) (more : List Lexeme) → IsPiece piece behind → IsFine piece → AllByRecursion IsShaped more → AllByRecursion IsShaped (lexemes_at text at piece ++ more)
shaped_at text at (Blank b) behind more blank fine shaped = shaped
shaped_at text at (Comment bytes) behind more run fine shaped = shaped
shaped_at text at (Word bytes) behind more run fine shaped = (record { begun = run.begun; within = run.within }, shaped)
shaped_at text at (Number bytes) behind more run fine shaped = (
  record {
    digits = run.within;
    fine = fine;
    written = decimal-number_of bytes (spelling_some (Number bytes) behind run) run.within fine;
  },
  shaped,
)
shaped_at text at (Symbol bytes) behind more symbol fine shaped = (symbol_alone bytes behind symbol, shaped)

shaped_from : (text : List ℕ) (at : ℕ) (pieces : List Piece) (rest : List ℕ) → ArePieces pieces rest → AllByRecursion IsFine pieces → AllByRecursion IsShaped (lexemes_from text at pieces)
shaped_from text at [] rest each fine = tt
shaped_from text at (piece ∷ pieces) rest each fine =
    shaped_at text at piece (row_of pieces rest) (lexemes_from text (at + length (spelling_of piece)) pieces) each.0 fine.0
    (shaped_from text (at + length (spelling_of piece)) pieces rest each.1 fine.1)

-- the tokens of a text are words, numbers as they are written, and symbols
pub lexes_shaped : (text : List ℕ) (lexemes : List Lexeme) → Lexes text lexemes → AllByRecursion IsShaped lexemes
lexes_shaped text lexemes lexes =
    subst (AllByRecursion IsShaped) (sym lexes.listed) (shaped_from text 0 lexes.pieces [] lexes.split.each lexes.fine)
