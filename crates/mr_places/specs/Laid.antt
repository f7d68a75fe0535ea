-- What is kept to find the places of a program.
use Rattle.std.specs.Prelude.{ℕ, suc, ◌+◌, if◌then◌else◌, List, [], ◌∷◌, drop, slice_get, Option, None, Some}
use Rattle.std.specs.Option.{option_map}
use Rattle.mr_ast.specs.declared.program.Block.{Block}
use Rattle.mr_ast.specs.declared.program.Function.{Function}
use Rattle.mr_lex.specs.Tokens.{Lexeme}
use Rattle.mr_places.specs.declared.places.Spot.{Spot}
use Rattle.mr_places.specs.Places.{behind, ends_of_block, ends_of_function, is_end, words_of_head}

-- where the semicolons end, the first of these tokens having number i
abbrev pub ends_from : ℕ → List Lexeme → List ℕ
ends_from i [] = []
ends_from i (l ∷ ls) = if is_end l.text then suc i ∷ ends_from (suc i) ls else ends_from (suc i) ls

-- how many semicolons stand in front of each block's first statement
abbrev pub firsts_of_blocks : ℕ → List Block → List ℕ
firsts_of_blocks n [] = []
firsts_of_blocks n (b ∷ bs) = n ∷ firsts_of_blocks (n + ends_of_block b) bs

-- the same of each function
abbrev pub firsts_of : ℕ → List Function → List (List ℕ)
firsts_of n [] = []
firsts_of n (f ∷ fs) = firsts_of_blocks (suc n) f.blocks ∷ firsts_of (n + ends_of_function f) fs

-- the tokens of a text, and how many semicolons stand in front of each block's first statement
pub record Laid : Type 0 where
  pub lexemes : List Lexeme
  pub firsts : List (List ℕ)

-- where a token begins
abbrev pub spot_of : Lexeme → Spot
spot_of l = record { at = l.at; line = l.line; col = l.col }

-- the first token of statement k of a block, in front of whose first statement so many semicolons stand
abbrev pub spot_behind : List Lexeme → ℕ → ℕ → Option Spot
spot_behind lexemes first k =
    option_map spot_of (slice_get (drop (words_of_head k) (behind (λ l. l.text) (first + k) lexemes)) 0)

-- the same, where the block is named
abbrev pub spot_in : List Lexeme → Option ℕ → ℕ → Option Spot
spot_in lexemes None k = None
spot_in lexemes (Some first) k = spot_behind lexemes first k

-- the entry of a block in the row of a function, where both are there
abbrev pub first_in : Option (List ℕ) → ℕ → Option ℕ
first_in None b = None
first_in (Some row) b = slice_get row b

-- the first token of statement k, or of the terminator, of block b in function f
abbrev pub spot_at : Laid → ℕ → ℕ → ℕ → Option Spot
spot_at laid f b k = spot_in laid.lexemes (first_in (slice_get laid.firsts f) b) k
