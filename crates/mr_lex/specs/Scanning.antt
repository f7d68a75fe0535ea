-- What stands at the front of a text, and how far the text has been read.
use Rattle.std.specs.Prelude.{◌≡◌, ℕ, ◌⊎◌, IsTrue, List, length, take, slice_index, Result, Ok, Err}
use Rattle.std.specs.List.{AllByRecursion}
use Rattle.mr_lex.specs.Bytes.{is_inline}
use Rattle.mr_lex.specs.Places.{line_of, column_of}
use Rattle.mr_lex.specs.declared.place.Place.{Place}
use Rattle.mr_lex.specs.Pieces.{Piece, spelling_of}
use Rattle.mr_lex.specs.Pieces as pieces
use Rattle.mr_lex.specs.declared.piece.Found.{Found}
use Rattle.mr_lex.specs.declared.piece.PieceKind.{PieceKind}
use Rattle.mr_lex.specs.declared.piece.PieceKind.TheVariants.{Blank, Comment, Token}
use Rattle.mr_lex.specs.declared.token.TokenKind.TheVariants.{Word, Number, Symbol}

-- the piece of these bytes
abbrev pub piece_of : PieceKind → List ℕ → Piece
piece_of Blank bytes = pieces.Blank (slice_index bytes 0)
piece_of Comment bytes = pieces.Comment bytes
piece_of (Token Word) bytes = pieces.Word bytes
piece_of (Token Number) bytes = pieces.Number bytes
piece_of (Token Symbol) bytes = pieces.Symbol bytes

-- the piece that was found at the front of a text
abbrev pub found_in : List ℕ → Found → Piece
found_in text found = piece_of found.kind (take found.len text)

-- what was found at the front of a text is what reading gives, with its length
abbrev pub Finds : List ℕ → Result Found ℕ → Result Piece ℕ → Type 0
Finds text (Ok found) read =
    (read ≡ Ok (found_in text found)) × (found.len ≡ length (spelling_of (found_in text found)))
Finds text (Err code) read = read ≡ Err code

-- the place has the line and the column of its offset in the text
pub record IsPlaceIn (text : List ℕ) (place : Place) : Type 0 where
  pub line : place.line ≡ line_of text place.at
  pub col : place.col ≡ column_of text place.at

-- the bytes are one byte, or hold no line feed
abbrev pub IsOneLine : List ℕ → Type 0
IsOneLine bytes = (length bytes ≡ 1) ⊎ AllByRecursion (λ b. IsTrue (is_inline b)) bytes
