-- An integer in bytes.
use Rattle.mr_eval.proofs.Common.{◌≡◌, ℕ, ◌*◌, ◌^◌, ◌<◌, true, sym, ◌∙◌, IntType, int_size, has_shape, lt_from, has_int}
use Rattle.mr_ast.specs.declared.types.Ty.TheVariants as ty
use Rattle.mr_value.specs.declared.val.Val.TheVariants as val

pub int_fits : (i : IntType) (n : ℕ) → has_shape (ty.Int i) (val.Int n) ≡ true → n < 2 ^ (8 * int_size i)
int_fits i n h = lt_from n (2 ^ (8 * int_size i)) (sym (has_int i n) ∙ h)
