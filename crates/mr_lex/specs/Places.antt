-- The line and the column of a byte, counted from 1.
use Rattle.std.specs.Prelude.{ℕ, ◌+◌, ◌==◌, List, take}
use Rattle.std.specs.List.{count_by, suffix_len}
use Rattle.mr_lex.specs.Bytes.{is_inline}

-- one more than the line feeds before the byte
abbrev pub line_of : List ℕ → ℕ → ℕ
line_of text n = 1 + count_by (λ b. b == 10) (take n text)

-- one more than the bytes between the last line feed before the byte, or the text's begin, and the byte
abbrev pub column_of : List ℕ → ℕ → ℕ
column_of text n = 1 + suffix_len is_inline (take n text)
