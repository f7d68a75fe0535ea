-- Where a text is wrong, from where reading its words stops.
use Rattle.std.specs.Prelude.{ℕ, ◌-◌, List, length, None, Some, slice_get}
use Rattle.mr_lex.specs.Tokens.{Lexeme}
use Rattle.mr_lex.specs.Places.{line_of, column_of}
use Rattle.mr_lex.specs.declared.token.TextFault.{TextFault}
use Rattle.mr_words.specs.declared.fault.Stop.{Stop}

-- the fault at a token, where so many tokens are left, or at the end
abbrev pub fault_at : List ℕ → List Lexeme → Stop → TextFault
fault_at text lexemes s = elim (slice_get lexemes (length lexemes - s.left)) as (λ _. TextFault) [
  | Some l ↦ record { line = l.line; col = l.col; code = s.code }
  | None ↦ record { line = line_of text (length text); col = column_of text (length text); code = s.code }
]
