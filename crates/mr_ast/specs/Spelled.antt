-- Which rows of marks write a thing, and which texts are in the grammar.
use Rattle.std.specs.Prelude.{ℕ, zero, suc, ◌-◌, ◌==◌, List}
use Rattle.mr_ast.specs.Forms.{Mark, SpelledBy}
use Rattle.mr_ast.specs.Scope.{Scope}
use Rattle.mr_ast.specs.Writing.{Kind, TheType, TheTree, ThePlace, TheValue, Meaning, Writing}
use Rattle.mr_ast.specs.TypeGrammar.{tree_form, type_form}
use Rattle.mr_ast.specs.ValueGrammar.{place_from, value_form}

-- how a thing of a kind is written
abbrev pub form_of : (kind : Kind) → Writing (Meaning kind)
form_of TheType = type_form
form_of TheTree = tree_form
form_of (ThePlace over) = place_from over
form_of TheValue = value_form

-- no row writes a part
abbrev pub NoPart : Scope → (kind : Kind) → Meaning kind → List Mark → Type 0
NoPart scope kind x marks = ⊥

-- What stands inside a bracket: brackets nest less than `height` deep, and so many more may be open.
unfoldable pub SpelledInside : ℕ → ℕ → Scope → (A : Type 0) → Writing A → A → List Mark → Type 0
SpelledInside zero room scope A form x marks = ⊥
SpelledInside (suc height) room scope A form x marks =
    SpelledBy (room == 0) (SpelledInside height (room - 1))
    (λ inner kind. SpelledBy (room == 0) (SpelledInside height (room - 1)) NoPart inner (form_of kind))
    scope form x marks

-- a thing of a kind, where brackets nest so deep and so many may be open
abbrev pub SpelledPart : ℕ → ℕ → Scope → (kind : Kind) → Meaning kind → List Mark → Type 0
SpelledPart height room scope kind = SpelledBy (room == 0) (SpelledInside height (room - 1)) NoPart scope (form_of kind)

-- a thing in a form
abbrev pub Spelled : ℕ → ℕ → Scope → {A : Type 0} → Writing A → A → List Mark → Type 0
Spelled height room scope form x marks =
    SpelledBy (room == 0) (SpelledInside height (room - 1)) (SpelledPart height room) scope form x marks
