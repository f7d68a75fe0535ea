-- Where a statement or a terminator begins among the tokens of its program's text: it is found by counting semicolons.
-- A text has one behind the locals of each function, behind each statement and behind each terminator, and no other.
use Rattle.std.specs.Prelude.{◌≡◌, ℕ, zero, suc, ◌+◌, Bool, if◌then◌else◌, List, [], ◌∷◌, ◌++◌, length, map, drop}
use Rattle.std.specs.Prelude.{codes, bytes_eq}
use Rattle.std.specs.List.{sum_by}
use Rattle.mr_ast.specs.declared.program.Block.{Block}
use Rattle.mr_ast.specs.declared.program.Function.{Function}
use Rattle.mr_ast.specs.Forms.{Mark}
use Rattle.mr_ast.specs.Scope.{Scope}
use Rattle.mr_ast.specs.Words.{Texts}
use Rattle.mr_ast.specs.Writing.{Writing}
use Rattle.mr_ast.specs.Spelled.{Spelled}
use Rattle.mr_grammar.specs.Denotes.{IsFine}

-- whether the word is a semicolon
abbrev pub is_end : List ℕ → Bool
is_end text = bytes_eq text (codes ";")

-- what stands behind the semicolon of this number, counted from 1, and all for 0
abbrev pub behind : {A : Type 0} → (A → List ℕ) → ℕ → List A → List A
behind text zero xs = xs
behind text (suc n) [] = []
behind text (suc n) (x ∷ xs) = if is_end (text x) then behind text n xs else behind text (suc n) xs

-- how many semicolons a block has
abbrev pub ends_of_block : Block → ℕ
ends_of_block b = suc (length b.stmts)

-- a row of blocks
abbrev pub ends_of_blocks : List Block → ℕ
ends_of_blocks blocks = sum_by ends_of_block blocks

-- a function
abbrev pub ends_of_function : Function → ℕ
ends_of_function f = suc (ends_of_blocks f.blocks)

-- and a row of functions
abbrev pub ends_of_functions : List Function → ℕ
ends_of_functions functions = sum_by ends_of_function functions

-- how many stand in front of statement k of a block, where these functions and these blocks of its function stand in
-- front of it
abbrev pub ends_before : List Function → List Block → ℕ → ℕ
ends_before functions blocks k = ends_of_functions functions + (suc (ends_of_blocks blocks) + k)

-- the words in front of a block's first statement: a name, a kind and a colon
abbrev pub words_of_head : ℕ → ℕ
words_of_head zero = 3
words_of_head (suc k) = 0

-- what stands from the first word of a place on
abbrev pub from_place : {A : Type 0} → (A → List ℕ) → List Function → List Block → ℕ → List A → List A
from_place text functions blocks k xs = drop (words_of_head k) (behind text (ends_before functions blocks k) xs)

-- The texts begin with words that write the thing in this form, and break no limit, inside the brackets of a function;
-- they go up to the next semicolon.
pub record BeginWith (scope : Scope) {A : Type 0} (form : Writing A) (x : A) (texts : Texts) : Type 0 where
  pub height : ℕ
  pub own : List Mark
  pub some : own ≡ [] → ⊥
  pub fine : IsFine own
  pub written : Spelled height 31 scope form x own
  pub rest : Texts
  pub whole : texts ≡ map (λ m. m.word.text) own ++ rest
  pub ended : rest ≡ behind (λ t. t) 1 texts
