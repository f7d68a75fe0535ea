-- What the names of a text stand for.
use Rattle.std.specs.Prelude.{ℕ, ◌+◌, ◌-◌, Bool, false, ◌==◌, nat_lt, if◌then◌else◌, List, [], ◌∷◌, ◌++◌, length, map}
use Rattle.std.specs.Prelude.{flat_map, bytes_eq, slice_index_or, position, Option, None, Some}
use Rattle.std.specs.List.{fold, list_any, position_or_len}
use Rattle.mr_ast.specs.declared.program.Target.{Target}
use Rattle.mr_ast.specs.declared.program.Target.TheVariants as target
use Rattle.mr_ast.specs.declared.words.Role.{Role}
use Rattle.mr_ast.specs.declared.words.Role.TheVariants.{DefinesGlobal, DefinesFunction, DefinesLocal, DefinesBlock}
use Rattle.mr_ast.specs.declared.words.Role.TheVariants.{UsesGlobal, UsesFunction, UsesLocal, UsesBlock}
use Rattle.mr_ast.specs.Forms.{Word}
use Rattle.mr_ast.specs.Words.{Texts}

-- the names that a function defines: its own, those of its locals and those of its blocks
pub record FunctionNames : Type 0 where
  pub name : List ℕ
  pub locals : Texts
  pub blocks : Texts

-- the names that a text defines, in order
pub record Definitions : Type 0 where
  pub globals : Texts
  pub functions : List FunctionNames

-- Where a word stands: in a text that defines these names, or none known yet; and in the function of this number.
pub record Scope : Type 0 where
  pub known : Option Definitions
  pub function : ℕ

-- the texts with one more at the end, unless it is there
abbrev pub with_text : Texts → List ℕ → Texts
with_text texts text = if list_any (bytes_eq text) texts then texts else texts ++ text ∷ []

-- each of the texts once, in the order in which they first stand there
unfoldable pub each_once : Texts → Texts
each_once texts = fold with_text [] texts

-- every name that is defined, in the order of the text
abbrev pub all_names : Definitions → Texts
all_names d = d.globals ++ flat_map (λ f. f.name ∷ f.locals ++ f.blocks) d.functions

-- the names of a program: each once, in the order of first definition
abbrev pub names_of : Definitions → Texts
names_of d = each_once (all_names d)

-- the names that globals and functions share
abbrev pub item_names : Definitions → Texts
item_names d = d.globals ++ map (λ f. f.name) d.functions

-- the names of the function of this number
abbrev pub function_names : Definitions → ℕ → FunctionNames
function_names d k = slice_index_or d.functions k (record { name = []; locals = []; blocks = [] })

-- the number of a name among those of its space, each once
abbrev pub number_in : Texts → List ℕ → Option ℕ
number_in space text = position (bytes_eq text) (each_once space)

-- the number of a name that is used, or the limit that it breaks
abbrev pub used_in : Option ℕ → ℕ × Option ℕ
used_in (Some n) = (n, None)
used_in None = (0, Some 5)

-- of a number among globals and functions, that of the global
abbrev pub as_global : ℕ → Option ℕ → Option ℕ
as_global globals (Some n) = if nat_lt n globals then Some n else None
as_global globals None = None

-- and that of the function
abbrev pub as_function : ℕ → Option ℕ → Option ℕ
as_function globals (Some n) = if nat_lt n globals then None else Some (n - globals)
as_function globals None = None

-- whether a number is this one
abbrev pub is_number : ℕ → Option ℕ → Bool
is_number k (Some n) = n == k
is_number k None = false

-- The number of a name's text, where the thing of number k is the first of its name; else the name is there twice.
abbrev pub defined_in : Definitions → Texts → ℕ → List ℕ → ℕ × Option ℕ
defined_in d space k text =
    (position_or_len (bytes_eq text) (names_of d), if is_number k (number_in space text) then None else Some 6)

-- what a name stands for in a text that defines these names: a number, and the code of its fault
unfoldable pub number_of_name : Definitions → ℕ → Role → List ℕ → ℕ × Option ℕ
number_of_name d f (DefinesGlobal k) text = defined_in d (item_names d) k text
number_of_name d f (DefinesFunction k) text = defined_in d (item_names d) (length d.globals + k) text
number_of_name d f (DefinesLocal k) text = defined_in d (function_names d f).locals k text
number_of_name d f (DefinesBlock k) text = defined_in d (function_names d f).blocks k text
number_of_name d f UsesGlobal text = used_in (as_global (length d.globals) (number_in (item_names d) text))
number_of_name d f UsesFunction text = used_in (as_function (length d.globals) (number_in (item_names d) text))
number_of_name d f UsesLocal text = used_in (number_in (function_names d f).locals text)
number_of_name d f UsesBlock text = used_in (number_in (function_names d f).blocks text)

-- the global or function of a number among both
abbrev pub target_of : ℕ → Option ℕ → Target × Option ℕ
target_of globals (Some n) =
    (if nat_lt n globals then target.Global (record { 0 = n }) else target.Function (record { 0 = n - globals }), None)
target_of globals None = (target.Global (record { 0 = 0 }), Some 5)

-- what a name stands for; where the definitions aren't known yet, its place among the words
abbrev pub name_number : Scope → Role → Word → ℕ × Option ℕ
name_number scope role word =
    elim scope.known as (λ _. ℕ × Option ℕ)
    [ Some d ↦ number_of_name d scope.function role word.text | None ↦ (word.place, None) ]

-- the same of a name that may be a global's or a function's
abbrev pub name_target : Scope → Word → Target × Option ℕ
name_target scope word = elim scope.known as (λ _. Target × Option ℕ) [
  | Some d ↦ target_of (length d.globals) (number_in (item_names d) word.text)
  | None ↦ (target.Global (record { 0 = word.place }), None)
]
