-- A text as a row of pieces: blanks, comments, words, numbers and symbols.
use Rattle.std.specs.Prelude.{◌≡◌, ℕ, Bool, List, [], ◌∷◌, ◌++◌, ◌&&◌, IsTrue, IsFalse}
use Rattle.std.specs.List.{AllByRecursion}
use Rattle.mr_lex.specs.Bytes.{is_blank, is_inline, begins_comment, is_letter, is_digit, is_word_byte, is_symbol}
use Rattle.mr_lex.specs.Bytes.{begins_arrow, ends_arrow, begins}
use Rattle.mr_lex.specs.Numbers.{IsFineNumber}

-- what a text is made of: one blank byte, a comment from its `#` on, a word, a number or a symbol
pub data Piece : Type 0 where
  Blank : ℕ → Piece
  Comment : List ℕ → Piece
  Word : List ℕ → Piece
  Number : List ℕ → Piece
  Symbol : List ℕ → Piece

-- the bytes of a piece
abbrev pub spelling_of : Piece → List ℕ
spelling_of (Blank b) = b ∷ []
spelling_of (Comment bytes) = bytes
spelling_of (Word bytes) = bytes
spelling_of (Number bytes) = bytes
spelling_of (Symbol bytes) = bytes

-- the bytes are a run: the first passes its test, all pass the other test, and the byte behind them, if there is one,
-- does not pass that
pub record IsRun (first each : ℕ → Bool) (bytes behind : List ℕ) : Type 0 where
  pub begun : IsTrue (begins first bytes)
  pub within : AllByRecursion (λ b. IsTrue (each b)) bytes
  pub longest : IsFalse (begins each behind)

-- the bytes are `->` or `=>`, or one byte that is a symbol and no part of these
abbrev pub IsSymbol : List ℕ → List ℕ → Type 0
IsSymbol [] behind = ⊥
IsSymbol (b ∷ []) behind = IsTrue (is_symbol b) × IsFalse (begins_arrow b && begins ends_arrow behind)
IsSymbol (b ∷ c ∷ []) behind = IsTrue (begins_arrow b) × IsTrue (ends_arrow c)
IsSymbol (b ∷ c ∷ d ∷ bytes) behind = ⊥

-- the piece is well formed, and the longest that begins at its place, where these bytes stand behind it
abbrev pub IsPiece : Piece → List ℕ → Type 0
IsPiece (Blank b) behind = IsTrue (is_blank b)
IsPiece (Comment bytes) behind = IsRun begins_comment is_inline bytes behind
IsPiece (Word bytes) behind = IsRun is_letter is_word_byte bytes behind
IsPiece (Number bytes) behind = IsRun is_digit is_digit bytes behind
IsPiece (Symbol bytes) behind = IsSymbol bytes behind

-- a number that a text may hold, or any other piece
abbrev pub IsFine : Piece → Type 0
IsFine (Blank b) = Unit {0}
IsFine (Comment bytes) = Unit {0}
IsFine (Word bytes) = Unit {0}
IsFine (Number bytes) = IsFineNumber bytes
IsFine (Symbol bytes) = Unit {0}

-- the pieces one behind the other, and then the rest
abbrev pub row_of : List Piece → List ℕ → List ℕ
row_of [] rest = rest
row_of (piece ∷ pieces) rest = spelling_of piece ++ row_of pieces rest

-- each piece is well formed and the longest at its place
abbrev pub ArePieces : List Piece → List ℕ → Type 0
ArePieces [] rest = Unit {0}
ArePieces (piece ∷ pieces) rest = IsPiece piece (row_of pieces rest) × ArePieces pieces rest

-- the text is these pieces, each the longest at its place, and then the unread rest
pub record Splits (text : List ℕ) (pieces : List Piece) (rest : List ℕ) : Type 0 where
  pub whole : text ≡ row_of pieces rest
  pub each : ArePieces pieces rest
