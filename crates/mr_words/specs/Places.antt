-- The words of a text, numbered.
use Rattle.std.specs.Prelude.{ℕ, suc, List, [], ◌∷◌, map, drop}
use Rattle.mr_ast.specs.Forms.{Word}
use Rattle.mr_ast.specs.Words.{Texts}
use Rattle.mr_lex.specs.Tokens.{Lexeme}

-- words with these texts, numbered from k on
abbrev pub numbered : ℕ → Texts → List Word
numbered k [] = []
numbered k (text ∷ texts) = record { text = text; place = k } ∷ numbered (suc k) texts

-- the words of tokens, from one of them on
unfoldable pub words_from : ℕ → List Lexeme → List Word
words_from k lexemes = numbered k (map (λ l. l.text) (drop k lexemes))

-- the words of tokens
abbrev pub words_of : List Lexeme → List Word
words_of lexemes = words_from 0 lexemes
