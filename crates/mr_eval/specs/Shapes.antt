-- Values in a row, of the shapes of their types.
use Rattle.std.specs.Prelude.{◌≡◌, true, List, [], ◌∷◌}
use Rattle.mr_ast.specs.declared.types.Ty.{Ty}
use Rattle.mr_value.specs.declared.val.Val.{Val}
use Rattle.mr_value.specs.Shape.{has_shape}

-- each value has the shape of its type
abbrev pub HaveShapes : List Ty → List Val → Type 0
HaveShapes [] [] = Unit {0}
HaveShapes [] (x ∷ xs) = ⊥
HaveShapes (t ∷ ts) [] = ⊥
HaveShapes (t ∷ ts) (x ∷ xs) = (has_shape t x ≡ true) × HaveShapes ts xs
