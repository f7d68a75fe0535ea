-- Names that can be held: they are ASCII, and there are no more than a text may have.
use Rattle.std.specs.Prelude.{ℕ, ◌≤◌, ◌≡◌, true, List, [], ◌∷◌, ◌++◌, length, bytes_eq, All, Option, None, Some}
use Rattle.std.specs.List.{list_any}
use Rattle.std.specs.Str.{IsAscii}
use Rattle.mr_ast.specs.Limits.{max_blocks, max_items}
use Rattle.mr_ast.specs.Words.{Texts}
use Rattle.mr_ast.specs.Scope.{Definitions, FunctionNames, function_names}

-- a function has at most 256 locals and 1,024 blocks
pub record IsSmallFunction (f : FunctionNames) : Type 0 where
  pub name : IsAscii f.name
  pub locals : All IsAscii f.locals
  pub blocks : All IsAscii f.blocks
  pub few_locals : length f.locals ≤ max_items
  pub few_blocks : length f.blocks ≤ max_blocks

-- a text has at most 256 globals and 256 functions
pub record IsSmall (d : Definitions) : Type 0 where
  pub globals : All IsAscii d.globals
  pub functions : All IsSmallFunction d.functions
  pub few_globals : length d.globals ≤ max_items
  pub few_functions : length d.functions ≤ max_items

-- the names that a function defines, in order
abbrev pub names_in : FunctionNames → Texts
names_in f = f.name ∷ f.locals ++ f.blocks

-- the names of the function of this number, where the text's definitions are known
abbrev pub known_names : Option Definitions → ℕ → FunctionNames
known_names None k = record { name = []; locals = []; blocks = [] }
known_names (Some d) k = function_names d k

-- the text is one of these
abbrev pub IsAmong : Texts → List ℕ → Type 0
IsAmong texts text = list_any (bytes_eq text) texts ≡ true
