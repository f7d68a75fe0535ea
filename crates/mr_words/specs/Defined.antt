-- The names that a text defines, and what names stand for.
use Rattle.std.specs.Prelude.{ℕ, List, [], map, None, Some, slice_get}
use Rattle.mr_ast.specs.declared.program.Function.{Function}
use Rattle.mr_ast.specs.declared.program.Global_.{Global_}
use Rattle.mr_ast.specs.Forms.{Word}
use Rattle.mr_ast.specs.Scope.{Scope, Definitions, FunctionNames}

-- where names stand for their places
abbrev pub unknown : Scope
unknown = record { known = None; function = 0 }

-- where names stand for what a text defines
abbrev pub knowing : Definitions → Scope
knowing d = record { known = Some d; function = 0 }

-- the text of the word at a place
abbrev pub text_at : List Word → ℕ → List ℕ
text_at words place = elim (slice_get words place) as (λ _. List ℕ) [ Some w ↦ w.text | None ↦ [] ]

-- the names that a function defines, where each is written as its place
abbrev pub function_names_in : List Word → Function → FunctionNames
function_names_in words f = record {
  name = text_at words f.name;
  locals = map (λ l. text_at words l.name) f.locals;
  blocks = map (λ b. text_at words b.name) f.blocks;
}

-- the names that globals and functions define, where each is written as its place
abbrev pub names_defined : List Word → List Global_ → List Function → Definitions
names_defined words globals functions = record {
  globals = map (λ g. text_at words g.name) globals;
  functions = map (function_names_in words) functions;
}
