-- The equations of `align_of`.
use Rattle.mr_layout.proofs.Common.{◌≡◌, ℕ, Bool, List, sym, ap, ◌∙◌, IntType, Tree, Ty, Ty-F, fold-roll-Ty, Variant, variant_step, align_of, int_size}
use Rattle.mr_layout.specs.Sizes.{align_step}
use Rattle.mr_ast.specs.declared.types.Ty.TheVariants as ty

pub align_int : (i : IntType) → align_of (ty.Int i) ≡ int_size i
align_int i = ap align_of (sym (ty.rolls-Int i)) ∙ fold-roll-Ty ℕ ℕ align_step variant_step (Ty-F.Int i)

pub align_bool : align_of ty.Bool ≡ 1
align_bool = ap align_of (sym ty.rolls-Bool) ∙ fold-roll-Ty ℕ ℕ align_step variant_step Ty-F.Bool

pub align_raw : align_of ty.Raw ≡ 8
align_raw = ap align_of (sym ty.rolls-Raw) ∙ fold-roll-Ty ℕ ℕ align_step variant_step Ty-F.Raw

pub align_fn_ptr : align_of ty.FnPtr ≡ 8
align_fn_ptr = ap align_of (sym ty.rolls-FnPtr) ∙ fold-roll-Ty ℕ ℕ align_step variant_step Ty-F.FnPtr

pub align_ref : (size align : ℕ) (never : Bool) → align_of (ty.Ref size align never) ≡ 8
align_ref size align never = ap align_of (sym (ty.rolls-Ref size align never)) ∙ fold-roll-Ty ℕ ℕ align_step variant_step (Ty-F.Ref size align never)

pub align_tuple : (size align : ℕ) (fields : List (ℕ × Ty)) → align_of (ty.Tuple size align fields) ≡ align
align_tuple size align fields = ap align_of (sym (ty.rolls-Tuple size align fields)) ∙ fold-roll-Ty ℕ ℕ align_step variant_step (Ty-F.Tuple size align fields)

pub align_array : (count : ℕ) (elem : Ty) → align_of (ty.Array count elem) ≡ align_of elem
align_array count elem = ap align_of (sym (ty.rolls-Array count elem)) ∙ fold-roll-Ty ℕ ℕ align_step variant_step (Ty-F.Array count elem)

pub align_union : (size align : ℕ) (fields : List (ℕ × Ty)) (chunks : List (ℕ × ℕ)) → align_of (ty.Union size align fields chunks) ≡ align
align_union size align fields chunks = ap align_of (sym (ty.rolls-Union size align fields chunks)) ∙ fold-roll-Ty ℕ ℕ align_step variant_step (Ty-F.Union size align fields chunks)

pub align_enum : (size align : ℕ) (disc : IntType) (variants : List Variant) (tree : Tree) → align_of (ty.Enum size align disc variants tree) ≡ align
align_enum size align disc variants tree = ap align_of (sym (ty.rolls-Enum size align disc variants tree)) ∙ fold-roll-Ty ℕ ℕ align_step variant_step (Ty-F.Enum size align disc variants tree)
