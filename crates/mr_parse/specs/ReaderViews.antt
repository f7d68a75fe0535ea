-- What contracts see of what is read beside the syntax: shapes, and things that are put together.
use Rattle.std.specs.Prelude.{◌≡◌, ℕ, List, [], ◌∷◌, ◌++◌, Result, Ok, Err}
use Rattle.mr_ast.specs.Forms.{Word}
use Rattle.mr_ast.specs.TypeGrammar.{Shape}
use Rattle.mr_words.specs.declared.fault.ReadFault.{ReadFault}
use Rattle.mr_words.specs.declared.fault.ReadFault.TheVariants.{Memory}
use Rattle.mr_words.specs.declared.fault.Stop.{Stop}
use Rattle.mr_grammar.specs.Reading.{◌>>=◌, expected}
use Rattle.mr_parse.specs.declared.types.Shape.{Shape as Written}

abbrev pub shape_of : Written → Shape
shape_of s = record { size = s.size; align = s.align }

-- a thing that was read, where this word stands behind it
abbrev pub followed_by : {A : Type 0} → List ℕ → A → List Word → Result (A × List Word) Stop
followed_by text x words = expected text words >>= λ rest. Ok (x, rest)

-- a thing beside what was read behind it, where it was
abbrev pub beside_of : {A B E : Type 0} → A → Result B E → Result (A × B) E
beside_of x (Ok y) = Ok (x, y)
beside_of x (Err e) = Err e

-- a list with one more thing at its end, where that was read; memory may run out then
abbrev pub Pushes : {A : Type 0} → List A → Result A ReadFault → Result (List A) ReadFault → Type 0
Pushes xs (Ok x) (Ok ys) = ys ≡ xs ++ x ∷ []
Pushes xs (Ok x) (Err fault) = fault ≡ Memory
Pushes xs (Err f) result = result ≡ Err f
