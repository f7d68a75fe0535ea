-- The texts of tokens.
use Rattle.mr_grammar.proofs.Common.{ℕ, ◌⊎◌, List, [], Number, Symbol, IsPiece}
use Rattle.mr_lex.specs.Pieces.{Word, IsFine}

-- the text is, by itself, a word, a number that a text may hold, or a symbol
abbrev pub IsTokenText : List ℕ → Type 0
IsTokenText text = IsPiece (Word text) [] ⊎ ((IsPiece (Number text) [] × IsFine (Number text)) ⊎ IsPiece (Symbol text) [])
