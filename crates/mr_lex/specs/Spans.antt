-- Tokens as they are stored: spans of a text.
use Rattle.std.specs.Prelude.{ℕ, ◌+◌, ◌≤◌, List, [], ◌∷◌, slice_range}
use Rattle.mr_lex.specs.Tokens.{Lexeme}
use Rattle.mr_lex.specs.declared.list.Span.{Span}
use Rattle.mr_lex.specs.declared.piece.PieceKind.{PieceKind}
use Rattle.mr_lex.specs.declared.piece.PieceKind.TheVariants.{Blank, Comment, Token}
use Rattle.mr_lex.specs.declared.place.Place.{Place}

-- the lexeme of a span of a text
abbrev pub lexeme_in : List ℕ → Span → Lexeme
lexeme_in text span = record {
  kind = span.kind;
  text = slice_range text span.at (span.at + span.len);
  at = span.at;
  line = span.line;
  col = span.col;
}

-- the spans lie between two offsets, in order and apart
abbrev pub AreBetween : ℕ → ℕ → List Span → Type 0
AreBetween from to [] = from ≤ to
AreBetween from to (span ∷ spans) = (from ≤ span.at) × AreBetween (span.at + span.len) to spans

-- the span of a piece of this length at a place, where it is a token
abbrev pub spans_of : Place → PieceKind → ℕ → List Span
spans_of place Blank len = []
spans_of place Comment len = []
spans_of place (Token kind) len =
    record { kind = kind; at = place.at; len = len; line = place.line; col = place.col } ∷ []
