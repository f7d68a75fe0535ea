-- The texts of values that are integers and bools.
use Rattle.std.specs.Prelude.{ℕ, List, [], ◌∷◌}
use Rattle.std.specs.Option.{unwrap_or}
use Rattle.mr_ast.specs.declared.types.Ty.{Ty}
use Rattle.mr_value.specs.declared.val.Val.{Val}
use Rattle.mr_intr.specs.Texts.{text_of}

-- the text of a value that has one
abbrev pub text_in : Ty → Val → List ℕ
text_in t v = unwrap_or (text_of t v) []

-- the text of each value
abbrev pub texts_in : List Ty → List Val → List (List ℕ)
texts_in (t ∷ types) (v ∷ args) = text_in t v ∷ texts_in types args
texts_in _ _ = []
