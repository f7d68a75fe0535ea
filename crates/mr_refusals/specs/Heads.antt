-- What is told at a place of a file: the place, what a code says, the line, and a caret.
use Rattle.std.specs.Prelude.{ℕ, ◌-◌, List, [], ◌++◌, codes, decimal, Option, None, Some}
use Rattle.mr_why.specs.Why.{Entry, entry_of}
use Rattle.mr_refusals.specs.Lines.{line_at, shown_lines}

-- a code, its name, and its sentence
abbrev pub entry_text : ℕ → Option Entry → List ℕ
entry_text code None = decimal code
entry_text code (Some e) = decimal code ++ codes " " ++ e.name ++ codes ": " ++ e.words.what

-- WHAT A CODE SAYS
abbrev pub code_text : ℕ → List ℕ
code_text code = entry_text code (entry_of code)

-- the sentence alone
abbrev pub sentence_in : Option Entry → List ℕ
sentence_in None = []
sentence_in (Some e) = e.words.what

abbrev pub sentence_of : ℕ → List ℕ
sentence_of code = sentence_in (entry_of code)

-- `FILE:LINE:COLUMN`
abbrev pub place_text : List ℕ → ℕ → ℕ → List ℕ
place_text file line col = file ++ codes ":" ++ decimal line ++ codes ":" ++ decimal col

-- the line of a text, and the caret under a column
abbrev pub lines_text : List ℕ → ℕ → ℕ → List ℕ
lines_text text line col = shown_lines (line_at text line) (col - 1)

-- A FAULT AT A PLACE of a text in a file
abbrev pub marked_text : List ℕ → List ℕ → ℕ → ℕ → ℕ → List ℕ
marked_text file text line col code =
    place_text file line col ++ codes ": " ++ code_text code ++ codes "\n" ++ lines_text text line col

-- a fault of a file that has no place in it
abbrev pub bare_text : List ℕ → ℕ → List ℕ
bare_text file code = file ++ codes ": " ++ code_text code ++ codes "\n"

-- A LINE OF A FILE, with the caret under its first byte
abbrev pub line_told : List ℕ → List ℕ → ℕ → List ℕ
line_told file text line = place_text file line 1 ++ codes "\n" ++ lines_text text line 1
