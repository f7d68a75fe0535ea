-- What an overflowing operator gives is a well-formed type.
use Rattle.mr_eval.proofs.Common.{◌≡◌, ◌*◌, [], ◌∷◌, None, refl, IntType, U8, U16, U32, U64, U128, I8, I16, I32, I64, I128, int_size, TypeOk, overflow_type}
use Rattle.std.specs.Int.Count.{ones}
use Rattle.mr_layout.specs.Rules.{tuple_rules}
use Rattle.mr_layout.proofs.BrokenLaws.{broken_bool, broken_int, broken_tuple}
use Rattle.mr_layout.proofs.SizeLaws.{size_laws}
use Rattle.mr_ast.specs.declared.types.Ty.TheVariants as ty

rules_kept : (i : IntType) → tuple_rules (2 * int_size i) (int_size i) ((0, ty.Int i) ∷ (int_size i, ty.Bool) ∷ []) ≡ None
unfolding tuple_rules ones
rules_kept U8 = simp size_laws refl
rules_kept U16 = simp size_laws refl
rules_kept U32 = simp size_laws refl
rules_kept U64 = simp size_laws refl
rules_kept U128 = simp size_laws refl
rules_kept I8 = simp size_laws refl
rules_kept I16 = simp size_laws refl
rules_kept I32 = simp size_laws refl
rules_kept I64 = simp size_laws refl
rules_kept I128 = simp size_laws refl

pub overflow_ok : (i : IntType) → TypeOk (overflow_type i)
overflow_ok i = simp (broken_tuple, broken_int, broken_bool) (rules_kept i)
