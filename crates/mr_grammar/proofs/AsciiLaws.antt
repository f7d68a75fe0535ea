-- The tokens of a text are ASCII, and no more than its bytes.
use Rattle.mr_grammar.proofs.Common.{◌≡◌, ℕ, zero, suc, ◌+◌, ◌^◌, ◌<◌, ◌≤◌, Bool, true, List, [], ◌∷◌, length, length-append, refl, ap, subst, arith, IsTrue, AllByRecursion, nat_tests, Blank, IsSymbol, Piece, spelling_of, Lexeme, lexemes_at, lexemes_from, words_of}
use Rattle.std.proofs.Common.{slice_get}
use Rattle.std.specs.Str.{IsAscii}
use Rattle.mr_lex.specs.Bytes.{is_digit, is_word_byte}
use Rattle.mr_lex.specs.Pieces.{ArePieces, row_of}
use Rattle.mr_lex.specs.Tokens.{Lexes}
use Rattle.mr_lex.specs.declared.token.TokenKind.{TokenKind}
use Rattle.mr_lex.proofs.PieceLaws.{spelling_some}
use Rattle.mr_lex.proofs.ShapeLaws.{HasShape, IsShaped, lexes_shaped}
use Rattle.mr_words.specs.Defined.{text_at}
use Rattle.mr_words.proofs.TextLaws.{text_at_place, text_of}
use Rattle.mr_lex.specs.declared.token.TokenKind.TheVariants as kinds

none_ascii : IsAscii []
none_ascii i = omega arith

more_ascii : (b : ℕ) (bytes : List ℕ) → b < 128 → IsAscii bytes → IsAscii (b ∷ bytes)
more_ascii b bytes small ascii zero = small
more_ascii b bytes small ascii (suc i) = ascii i

all_ascii : (test : ℕ → Bool) → ((b : ℕ) → test b ≡ true → b < 128) → (bytes : List ℕ) → AllByRecursion (λ b. IsTrue (test b)) bytes → IsAscii bytes
all_ascii test small [] all = none_ascii
all_ascii test small (b ∷ bytes) all = more_ascii b bytes (small b all.0) (all_ascii test small bytes all.1)

symbol_ascii : (bytes behind : List ℕ) → IsSymbol bytes behind → IsAscii bytes
symbol_ascii [] behind symbol = none_ascii
symbol_ascii (b ∷ []) behind symbol = more_ascii b [] (grind (arith, nat_tests, symbol.0)) none_ascii
symbol_ascii (b ∷ c ∷ []) behind symbol = more_ascii b (c ∷ []) (grind (arith, nat_tests, symbol.0)) (more_ascii c [] (grind (arith, nat_tests, symbol.1)) none_ascii)
symbol_ascii (b ∷ c ∷ d ∷ bytes) behind symbol = absurd symbol

shape_ascii : (kind : TokenKind) (bytes : List ℕ) → HasShape kind bytes → IsAscii bytes
shape_ascii kinds.Word bytes shape = all_ascii is_word_byte (λ b e. grind (arith, nat_tests)) bytes shape.within
shape_ascii kinds.Number bytes shape = all_ascii is_digit (λ b e. grind (arith, nat_tests)) bytes shape.digits
shape_ascii kinds.Symbol bytes shape = symbol_ascii bytes [] shape

at_ascii : (lexemes : List Lexeme) (n : ℕ) → AllByRecursion IsShaped lexemes → IsAscii (text_of (slice_get lexemes n))
at_ascii [] n shaped = none_ascii
at_ascii (l ∷ ls) zero shaped = shape_ascii l.kind l.text shaped.0
at_ascii (l ∷ ls) (suc n) shaped = at_ascii ls n shaped.1

-- the text of the word at each place is ASCII
pub texts_ascii : (text : List ℕ) (lexemes : List Lexeme) → Lexes text lexemes → (n : ℕ) → IsAscii (text_at (words_of lexemes) n)
texts_ascii text lexemes lexes n = subst IsAscii (text_at_place lexemes n (slice_get lexemes n) refl) (at_ascii lexemes n (lexes_shaped text lexemes lexes))

-- ---- each token takes a byte

one_at_most : (text : List ℕ) (at : ℕ) (piece : Piece) → length (lexemes_at text at piece) ≤ 1
one_at_most text at (Blank b) = omega arith
one_at_most text at _ = omega arith

few_from : (text : List ℕ) (at : ℕ) (pieces : List Piece) (rest : List ℕ) → ArePieces pieces rest → length (lexemes_from text at pieces) ≤ length (row_of pieces rest)
few_from text at [] rest each = omega arith
few_from text at (piece ∷ pieces) rest each =
    omega (
      arith,
      one_at_most text at piece,
      spelling_some piece (row_of pieces rest) each.0,
      few_from text (at + length (spelling_of piece)) pieces rest each.1,
      length-append (lexemes_at text at piece) (lexemes_from text (at + length (spelling_of piece)) pieces),
      length-append (spelling_of piece) (row_of pieces rest),
    )

pub few_tokens : (text : List ℕ) (lexemes : List Lexeme) → Lexes text lexemes → length lexemes ≤ 2 ^ 20
few_tokens text lexemes lexes =
    omega (arith, lexes.short, few_from text 0 lexes.pieces [] lexes.split.each, ap length lexes.listed, ap length lexes.split.whole)
