-- The answer whether two types are equal.
use Rattle.mr_ast.proofs.Common.{◌≡◌, Bool, Ty}
use Rattle.std.proofs.Common.{◌↔◌, IsTrue}
use Rattle.std.specs.Bool.{one_answer}
use Rattle.mr_ast.specs.Equal.{equal_types, equal_types_decides}

-- there is no other one
pub equal_types_answer : (b : Bool) (t u : Ty) → (IsTrue b ↔ (t ≡ u)) → b ≡ equal_types t u
equal_types_answer b t u tells = one_answer b (equal_types t u) tells (equal_types_decides t u)
