-- The tokens of a text, or its first fault.
use Rattle.std.specs.Prelude.{◌≡◌, ℕ, ◌+◌, ◌-◌, ◌<◌, ◌≤◌, ◌⊎◌, List, [], ◌∷◌, ◌++◌, length, slice_range, IsFalse}
use Rattle.std.specs.List.{AllByRecursion}
use Rattle.mr_lex.specs.Rules.{code_of}
use Rattle.mr_lex.specs.declared.rule.TextRule.TheVariants.{BadByte, BadNumber, LongText}
use Rattle.mr_lex.specs.Limits.{max_text}
use Rattle.mr_lex.specs.Bytes.{begins, begins_piece}
use Rattle.mr_lex.specs.Numbers.{IsFineNumber}
use Rattle.mr_lex.specs.Pieces.{Piece, Word, Number, Symbol, spelling_of, IsPiece, IsFine, Splits}
use Rattle.mr_lex.specs.Places.{line_of, column_of}
use Rattle.mr_lex.specs.declared.token.TextFault.{TextFault}
use Rattle.mr_lex.specs.declared.token.Token.{Token}
use Rattle.mr_lex.specs.declared.token.TokenKind.{TokenKind}
use Rattle.mr_lex.specs.declared.token.TokenKind.TheVariants as kinds

-- what contracts see of a token: its bytes, where it begins, and the line and the column of its first byte
pub record Lexeme : Type 0 where
  pub kind : TokenKind
  pub text : List ℕ
  pub at : ℕ
  pub line : ℕ
  pub col : ℕ

-- a token without where it lies in memory
abbrev pub lexeme_of : Token → Lexeme
lexeme_of token = record { kind = token.kind; text = token.text.now; at = token.at; line = token.line; col = token.col }

-- the lexeme of these bytes at a place of a text
abbrev pub lexeme_at : List ℕ → ℕ → TokenKind → List ℕ → Lexeme
lexeme_at text at kind bytes =
    record { kind = kind; text = bytes; at = at; line = line_of text at; col = column_of text at }

-- the lexeme of a piece at a place, where it is a word, a number or a symbol
abbrev pub lexemes_at : List ℕ → ℕ → Piece → List Lexeme
lexemes_at text at (Word bytes) = lexeme_at text at kinds.Word bytes ∷ []
lexemes_at text at (Number bytes) = lexeme_at text at kinds.Number bytes ∷ []
lexemes_at text at (Symbol bytes) = lexeme_at text at kinds.Symbol bytes ∷ []
lexemes_at text at _ = []

-- the lexemes of pieces that follow one another from a place on
abbrev pub lexemes_from : List ℕ → ℕ → List Piece → List Lexeme
lexemes_from text at [] = []
lexemes_from text at (piece ∷ pieces) =
    lexemes_at text at piece ++ lexemes_from text (at + length (spelling_of piece)) pieces

-- the text splits into pieces, each number among them fine, and the lexemes are those of its words, numbers and symbols
pub record Lexes (text : List ℕ) (lexemes : List Lexeme) : Type 0 where
  pub short : length text ≤ max_text
  pub pieces : List Piece
  pub split : Splits text pieces []
  pub fine : AllByRecursion IsFine pieces
  pub listed : lexemes ≡ lexemes_from text 0 pieces

-- the lexemes lie in the text from a place on, in order and apart, each the part of the text at its place
abbrev pub AreInOrder : List ℕ → ℕ → List Lexeme → Type 0
AreInOrder text from [] = from ≤ length text
AreInOrder text from (lexeme ∷ lexemes) =
    (from ≤ lexeme.at)
    × (lexeme.text ≡ slice_range text lexeme.at (lexeme.at + length lexeme.text))
    × AreInOrder text (lexeme.at + length lexeme.text) lexemes

-- the fault with this code at a place of a text
abbrev pub fault_at : List ℕ → ℕ → ℕ → TextFault
fault_at text at code = record { line = line_of text at; col = column_of text at; code = code }

-- the rest begins with a byte that begins no piece
pub record IsBadByte (rest : List ℕ) : Type 0 where
  pub some : 0 < length rest
  pub bad : IsFalse (begins begins_piece rest)

-- the rest begins with a number that a text may not hold
pub record IsBadNumber (rest : List ℕ) : Type 0 where
  pub digits : List ℕ
  pub behind : List ℕ
  pub whole : rest ≡ digits ++ behind
  pub number : IsPiece (Number digits) behind
  pub bad : ¬ IsFineNumber digits

-- the fault of a rest, by its code
abbrev pub IsFaulty : List ℕ → ℕ → Type 0
IsFaulty rest code = ((code ≡ code_of BadByte) × IsBadByte rest) ⊎ ((code ≡ code_of BadNumber) × IsBadNumber rest)

-- the text splits into pieces, each number among them fine, and a rest at whose begin the fault is
pub record StopsAt (text : List ℕ) (fault : TextFault) : Type 0 where
  pub short : length text ≤ max_text
  pub pieces : List Piece
  pub rest : List ℕ
  pub split : Splits text pieces rest
  pub fine : AllByRecursion IsFine pieces
  pub faulty : IsFaulty rest fault.code
  pub placed : fault ≡ fault_at text (length text - length rest) fault.code

-- the first fault of a text: it is too long, or else what stands in it before the fault is fine
abbrev pub FirstFault : List ℕ → TextFault → Type 0
FirstFault text fault =
    ((max_text < length text) × (fault ≡ record { line = 1; col = 1; code = code_of LongText })) ⊎ StopsAt text fault
