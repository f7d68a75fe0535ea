-- Atomic integers, and an intrinsic that takes four arguments or more.
use Rattle.mr_wf.proofs.Common.{◌≡◌, ◌≤◌, ℕ, List, [], ◌∷◌, length, Some, refl, ap, ◌∙◌, arith, ◌&&◌, Option, nat_le, Ty, is_scalar_number, integer_of}
use Rattle.std.specs.Prelude.{is_some}
use Rattle.std.specs.List.{list_all}
use Rattle.mr_ast.specs.declared.program.Intrinsic.{Intrinsic}
use Rattle.mr_ast.specs.declared.types.IntType.{IntType}
use Rattle.mr_ast.specs.Integers.{int_size}
use Rattle.mr_layout.specs.Sizes.{size_of}
use Rattle.mr_layout.proofs.SizeLaws.{size_int}
use Rattle.mr_typing.specs.Intrinsics.{fits_intrinsic, gives_nothing, is_atomic, is_print}
use Rattle.mr_typing.proofs.KindLaws.{integer_is}
use Rattle.mr_ast.specs.declared.program.Intrinsic.TheVariants as intrinsic

pub atomic_told : (t : Ty) (i : IntType) → integer_of t ≡ Some i → is_atomic t ≡ nat_le (int_size i) 8
atomic_told t i is =
    ap (λ (o : Option IntType). is_some o && nat_le (size_of t) 8) is
    ∙ ap (λ (n : ℕ). nat_le n 8) (ap size_of (integer_is t i is) ∙ size_int i)

many : (op : Intrinsic) (a b c d : Ty) (rest : List Ty) (result : Option Ty)
    → fits_intrinsic op (a ∷ b ∷ c ∷ d ∷ rest) result ≡ (is_print op && (list_all is_scalar_number (a ∷ b ∷ c ∷ d ∷ rest) && gives_nothing result))
many intrinsic.Print a b c d rest result = refl
many _ a b c d rest result = refl

pub many_arguments : (op : Intrinsic) (args : List Ty) (result : Option Ty) → 4 ≤ length args
    → fits_intrinsic op args result ≡ (is_print op && (list_all is_scalar_number args && gives_nothing result))
many_arguments op [] result le = absurd (omega arith)
many_arguments op (a ∷ []) result le = absurd (omega arith)
many_arguments op (a ∷ b ∷ []) result le = absurd (omega arith)
many_arguments op (a ∷ b ∷ c ∷ []) result le = absurd (omega arith)
many_arguments op (a ∷ b ∷ c ∷ d ∷ rest) result le = many op a b c d rest result
