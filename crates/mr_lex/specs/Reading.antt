-- Reading a text: what its tokens or its first fault are, computed.
use Rattle.std.specs.Prelude.{◌≡◌, ℕ, zero, suc, ◌-◌, ◌^◌, Bool, not, ◌||◌, ◌&&◌, ◌==◌, nat_lt, if◌then◌else◌, List, []}
use Rattle.std.specs.Prelude.{◌∷◌, length, take, drop, slice_index, Result, Ok, Err}
use Rattle.std.specs.List.{take_while}
use Rattle.mr_lex.specs.Rules.{code_of}
use Rattle.mr_lex.specs.declared.rule.TextRule.TheVariants.{BadByte, BadNumber, LongText}
use Rattle.mr_lex.specs.Limits.{max_text}
use Rattle.mr_lex.specs.Bytes.{is_blank, is_inline, begins_comment, is_letter, is_digit, is_word_byte, is_symbol}
use Rattle.mr_lex.specs.Bytes.{begins_arrow, ends_arrow}
use Rattle.mr_lex.specs.Numbers.{number_of}
use Rattle.mr_lex.specs.Pieces.{Piece, Blank, Comment, Word, Number, Symbol, spelling_of}
use Rattle.mr_lex.specs.Tokens.{Lexeme, lexemes_from, fault_at}
use Rattle.mr_lex.specs.declared.token.TextFault.{TextFault}
use Rattle.mr_lex.specs.declared.token.LexFault.{LexFault}
use Rattle.mr_lex.specs.declared.token.LexFault.TheVariants.{Bad, Memory}

-- whether a text may hold the number
abbrev pub is_fine_number : List ℕ → Bool
is_fine_number digits = (not (slice_index digits 0 == 48) || length digits == 1) && nat_lt (number_of digits) (2 ^ 128)

-- the number, or its fault
unfoldable pub number_at : List ℕ → Result Piece ℕ
number_at rest =
    let digits = take_while is_digit rest in
    if is_fine_number digits then Ok (Number digits) else Err (code_of BadNumber)

-- the symbol at the front, or its fault
unfoldable pub symbol_at : List ℕ → Result Piece ℕ
symbol_at rest =
    if begins_arrow (slice_index rest 0) && ends_arrow (slice_index rest 1) then Ok (Symbol (take 2 rest))
    else (if is_symbol (slice_index rest 0) then Ok (Symbol (take 1 rest)) else Err (code_of BadByte))

-- the piece at the front of a rest that is not empty, or the code of the fault there
unfoldable pub piece_at : List ℕ → Result Piece ℕ
piece_at rest =
    let first = slice_index rest 0 in
    if is_blank first then Ok (Blank first)
    else (if begins_comment first then Ok (Comment (take_while is_inline rest))
    else (if is_letter first then Ok (Word (take_while is_word_byte rest))
    else (if is_digit first then number_at rest
    else symbol_at rest)))

-- the pieces from the front on, up to a fault or the end, and the rest from there on; the number bounds how many
unfoldable pub split_of : ℕ → List ℕ → List Piece × List ℕ
split_of zero rest = ([], rest)
split_of (suc turns) rest =
    elim (piece_at rest) as (λ _. List Piece × List ℕ) [
      | Ok piece ↦ let more = split_of turns (drop (length (spelling_of piece)) rest) in (piece ∷ more.0, more.1)
      | Err code ↦ ([], rest)
    ]

-- the lexemes of the pieces, where nothing is left, and else the fault of the rest
unfoldable pub outcome_of : List ℕ → List Piece × List ℕ → Result (List Lexeme) TextFault
outcome_of text split =
    elim split.1 as (λ _. Result (List Lexeme) TextFault) [
      | [] ↦ Ok (lexemes_from text 0 split.0)
      | b ∷ bytes ↦
          Err (fault_at text (length text - length split.1) (if is_digit b then code_of BadNumber else code_of BadByte))
    ]

-- the tokens of a text, or its first fault
unfoldable pub lexed : List ℕ → Result (List Lexeme) TextFault
lexed text =
    if nat_lt max_text (length text) then Err (record { line = 1; col = 1; code = code_of LongText })
    else outcome_of text (split_of (length text) text)

-- an answer is what reading gives, unless memory ran out
abbrev pub Gives : Result (List Lexeme) LexFault → Result (List Lexeme) TextFault → Type 0
Gives (Ok lexemes) read = read ≡ Ok lexemes
Gives (Err (Bad fault)) read = read ≡ Err fault
Gives (Err Memory) read = Unit {0}
