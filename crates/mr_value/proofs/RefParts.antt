-- The alignment of a reference that breaks no rule isn't 0.
use Rattle.mr_value.proofs.Common.{◌≡◌, ℕ, ◌<◌, ◌^◌, Bool, true, None, sym, ◌∙◌, arith, not, nat_lt, nat_le, ◌==◌, and_parts, TypeSize, TypeAlign, is_align, is_ok, rule_none, ok_of, eq_from, not_false}
use Rattle.std.specs.Int.RustNames.{count_ones}
use Rattle.std.proofs.lemmas.Nat.{ones_le_self}
use Rattle.mr_layout.specs.Rules.{ref_rules}
use Rattle.mr_layout.proofs.BrokenLaws.{broken_ref}
use Rattle.mr_ast.specs.declared.types.Ty.TheVariants as ty

align_positive : (size align : ℕ) → ref_rules size align ≡ None → 0 < align
unfolding ref_rules
align_positive size align e =
    let h = (rule_none TypeAlign (not (is_align align)) None (rule_none TypeSize (not (nat_lt size (2 ^ 63))) _ e).1).0 in
    let p = eq_from (count_ones align) 1 (and_parts (count_ones align == 1) (nat_le align 4096) (not_false _ h)).0 in
    let q = ones_le_self align in
    omega arith

pub ref_align : (size align : ℕ) (never : Bool) → is_ok (ty.Ref size align never) ≡ true → 0 < align
ref_align size align never e = align_positive size align (sym (broken_ref size align never) ∙ ok_of (ty.Ref size align never) e)
