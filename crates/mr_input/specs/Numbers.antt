-- Numbers among the words behind the program's name.
use Rattle.std.specs.Prelude.{ℕ, nat_lt, List, Option, None, Some, if◌then◌else◌}
use Rattle.mr_ast.specs.Words.{is_number, value_of}

-- a number in decimal below a limit
abbrev pub number_below : ℕ → List ℕ → Option ℕ
number_below limit word =
    if is_number word then (if nat_lt (value_of word) limit then Some (value_of word) else None) else None
