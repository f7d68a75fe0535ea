-- The first fault of a program's text, as it is told.
use Rattle.std.specs.Prelude.{ℕ, ◌+◌, ◌-◌, ◌^◌, ◌==◌, ◌&&◌, nat_le, Bool, if◌then◌else◌, List, [], ◌++◌, codes, decimal}
use Rattle.std.specs.Prelude.{length, take, Option, None, Some, slice_get, Result, Ok, Err}
use Rattle.std.specs.List.{find}
use Rattle.mr_lex.specs.Reading.{lexed}
use Rattle.mr_lex.specs.Tokens.{Lexeme}
use Rattle.mr_lex.specs.declared.token.TextFault.{TextFault}
use Rattle.mr_refusals.specs.Going.{is_of_names, may_stand}
use Rattle.mr_refusals.specs.Heads.{marked_text}
use Rattle.mr_refusals.specs.Lines.{line_at}

-- whether a token begins at a line and a column
abbrev pub begins_at : ℕ → ℕ → Lexeme → Bool
begins_at line col l = (l.line == line) && (l.col == col)

-- whether it is told what may stand there: for a token that doesn't fit, with no more than 2^16 bytes in front of it,
-- since all of them are read anew with each word
abbrev pub is_tried : ℕ → List ℕ → Bool
is_tried code front = (code == 4) && nat_le (length front) (2 ^ 16)

-- what may, behind the text in front of it
abbrev pub going_told : TextFault → List ℕ → List ℕ
going_told f front = if is_tried f.code front then may_stand front (f.line + 1) else []

-- a word that stands there, of which 60 bytes are told: a name that is unknown or stands twice, or another
abbrev pub word_line : ℕ → List ℕ → List ℕ
word_line code word =
    (if is_of_names code then codes "the name is `" else codes "here stands `") ++ take 60 word ++ codes "`\n"

-- WHAT STANDS AT THE FAULT, a token or the text's end, and what may
abbrev pub token_told : List ℕ → TextFault → Option Lexeme → List ℕ
token_told text f None = codes "the text ends here\n" ++ going_told f text
token_told text f (Some l) = word_line f.code l.text ++ going_told f (take l.at text)

-- the byte that begins no token
abbrev pub byte_told : ℕ → Option ℕ → List ℕ
byte_told code None = []
byte_told code (Some b) = if code == 1 then codes "the byte is " ++ decimal b ++ codes "\n" else []

-- the same of a text with these tokens, or with a fault among them
abbrev pub standing_told : List ℕ → TextFault → Result (List Lexeme) TextFault → List ℕ
standing_told text f (Ok lexemes) = token_told text f (find (begins_at f.line f.col) lexemes)
standing_told text f (Err e) = byte_told f.code (slice_get (line_at text f.line) (f.col - 1))

-- THE FIRST FAULT OF A TEXT in a file
abbrev pub text_told : List ℕ → List ℕ → TextFault → List ℕ
text_told file text f = marked_text file text f.line f.col f.code ++ standing_told text f (lexed text)
