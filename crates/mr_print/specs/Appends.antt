-- What an output holds behind what it held, once words and lines are written.
use Rattle.std.specs.Prelude.{ℕ, ◌==◌, if◌then◌else◌, List, [], ◌∷◌, ◌++◌, flat_map, codes}
use Rattle.mr_ast.specs.Words.{Texts}
use Rattle.mr_ast.specs.Canon.{text_of_line, text_of_lines}

-- a word, and the space in front of the next
unfoldable pub with_word : List ℕ → List ℕ → List ℕ
with_word old word = old ++ (word ++ 32 ∷ [])

-- some such words
unfoldable pub with_words : List ℕ → Texts → List ℕ
with_words old words = old ++ flat_map (λ word. word ++ 32 ∷ []) words

-- the last word of a line, and the LF
unfoldable pub with_last : List ℕ → List ℕ → List ℕ
with_last old word = old ++ (word ++ 10 ∷ [])

unfoldable pub with_line : List ℕ → Texts → List ℕ
with_line old line = old ++ text_of_line line

unfoldable pub with_lines : List ℕ → List Texts → List ℕ
with_lines old lines = old ++ text_of_lines lines

-- the comma in front of a row, unless it is the first
abbrev pub comma_at : ℕ → Texts
comma_at k = if k == 0 then [] else codes "," ∷ []
