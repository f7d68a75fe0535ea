-- A type that holds no other, by its kind.
use Rattle.mr_ast.specs.declared.types.Ty.{Ty}
use Rattle.mr_ast.specs.declared.types.Ty.TheVariants as ty
use Rattle.mr_eval.specs.declared.plain.Kind.{Kind}
use Rattle.mr_eval.specs.declared.plain.Kind.TheVariants as kind

-- the type of a kind
abbrev pub plain_ty : Kind → Ty
plain_ty (kind.Int i) = ty.Int i
plain_ty kind.Bool = ty.Bool
plain_ty kind.Raw = ty.Raw
plain_ty kind.FnPtr = ty.FnPtr
