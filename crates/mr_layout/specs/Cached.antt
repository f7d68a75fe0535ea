-- When a cache is that of a program.
use Rattle.std.specs.Prelude.{◌≡◌, ◌≢◌, ◌⊎◌, List, [], ◌∷◌, ◌++◌, All, AllPairs, Contains}
use Rattle.mr_ast.specs.declared.types.Ty.{Ty}
use Rattle.mr_ast.specs.declared.program.Program.{Program}
use Rattle.mr_layout.specs.Written.{written_types}

-- some types are those of a list, each once
pub record AreTypesOf (held types : List Ty) : Type 0 where
  pub all : All (Contains held) types
  pub alone : All (Contains types) held
  pub once : AllPairs (λ a b. a ≢ b) held

-- a cache holds the types that are written in the program, whole or as a part, each once, and no other type
abbrev pub IsCacheOf : List Ty → Program → Type 0
IsCacheOf held p = AreTypesOf held (written_types p)

-- a type is put last where it isn't held already
abbrev pub Adds : List Ty → Ty → List Ty → Type 0
Adds old t new = (Contains old t × (new ≡ old)) ⊎ ((¬ Contains old t) × (new ≡ old ++ t ∷ []))
