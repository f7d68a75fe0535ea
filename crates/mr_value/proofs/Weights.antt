-- A part of a type or a tree weighs less than the whole, by which recursions end.
use Rattle.mr_value.proofs.Common.{◌≡◌, ℕ, zero, suc, ◌+◌, ◌<◌, List, [], ◌∷◌, map, length, get_or, refl, sym, ap, ◌∙◌, arith, IntType, Num, Tree, Ty, Ty-F, Variant, out-Variant, weight_of}
use Rattle.mr_ast.specs.declared.types.Tree.TheOpen.{Tree-F}
use Rattle.mr_ast.specs.declared.types.Tree.TheFolds.{fold-Tree, fold-roll-Tree}
use Rattle.mr_ast.specs.declared.types.Ty.TheFolds.{fold-Variant, fold-roll-Ty, fold-roll-Variant}
use Rattle.mr_ast.specs.Weight.{variants_sum, weight_step}
use Rattle.mr_ast.specs.declared.types.Tree.TheVariants as tree
use Rattle.mr_ast.specs.declared.types.Ty.TheVariants as ty

pub weight_array : (count : ℕ) (elem : Ty) → weight_of (ty.Array count elem) ≡ 1 + weight_of elem
unfolding weight_of
weight_array count elem = ap weight_of (sym (ty.rolls-Array count elem)) ∙ fold-roll-Ty ℕ ℕ weight_step (λ v. v.ty) (Ty-F.Array count elem)

-- how much variants weigh
abbrev pub variants_weight : List Variant → ℕ
variants_weight [] = 0
variants_weight (v ∷ variants) = weight_of v.ty + 1 + variants_weight variants

abbrev variant_weight : Variant → ℕ
variant_weight = fold-Variant ℕ ℕ weight_step (λ v. v.ty)

variant_weight_is : (v : Variant) → variant_weight v ≡ weight_of v.ty
unfolding weight_of
variant_weight_is v = fold-roll-Variant ℕ ℕ weight_step (λ v. v.ty) (out-Variant v)

variants_sum_is : (variants : List Variant) → variants_sum (map variant_weight variants) ≡ variants_weight variants
variants_sum_is [] = refl
variants_sum_is (v ∷ variants) =
    ap (λ n. n + 1 + variants_sum (map variant_weight variants)) (variant_weight_is v) ∙ ap (λ n. weight_of v.ty + 1 + n) (variants_sum_is variants)

pub weight_enum : (size align : ℕ) (disc : IntType) (variants : List Variant) (tree : Tree) → weight_of (ty.Enum size align disc variants tree) ≡ 1 + variants_weight variants
unfolding weight_of
weight_enum size align disc variants tree =
    ap weight_of (sym (ty.rolls-Enum size align disc variants tree)) ∙ fold-roll-Ty ℕ ℕ weight_step (λ v. v.ty) (Ty-F.Enum size align disc variants tree) ∙ ap (λ n. 1 + n) (variants_sum_is variants)

pub weight_variant : (variants : List Variant) (i : ℕ) (d : Variant) → i < length variants → weight_of (get_or variants i d).ty < variants_weight variants
weight_variant [] i d p = absurd (omega arith)
weight_variant (v ∷ variants) zero d p = omega arith
weight_variant (v ∷ variants) (suc i) d p = let h = weight_variant variants i d (omega arith) in omega arith

abbrev cases_sum : List (Num × ℕ) → ℕ
cases_sum [] = 0
cases_sum (c ∷ cases) = c.1 + 1 + cases_sum cases

abbrev tree_weight_step : Tree-F ℕ → ℕ
tree_weight_step (Tree-F.Known n) = 1
tree_weight_step Tree-F.Invalid = 1
tree_weight_step (Tree-F.Branch at int cases rest) = 1 + cases_sum cases + rest

-- how much a tree weighs
unfoldable pub tree_weight : Tree → ℕ
tree_weight = fold-Tree ℕ tree_weight_step

abbrev pub cases_weight : List (Num × Tree) → ℕ
cases_weight [] = 0
cases_weight (c ∷ cases) = tree_weight c.1 + 1 + cases_weight cases

cases_sum_is : (cases : List (Num × Tree)) → cases_sum (map (λ c. (c.0, tree_weight c.1)) cases) ≡ cases_weight cases
cases_sum_is [] = refl
cases_sum_is (c ∷ cases) = ap (λ n. tree_weight c.1 + 1 + n) (cases_sum_is cases)

pub weight_branch : (at : ℕ) (int : IntType) (cases : List (Num × Tree)) (rest : Tree) → tree_weight (tree.Branch at int cases rest) ≡ 1 + cases_weight cases + tree_weight rest
unfolding tree_weight
weight_branch at int cases rest =
    ap tree_weight (sym (tree.rolls-Branch at int cases rest)) ∙ fold-roll-Tree ℕ tree_weight_step (Tree-F.Branch at int cases rest)
    ∙ ap (λ n. 1 + n + tree_weight rest) (cases_sum_is cases)

pub weight_case : (cases : List (Num × Tree)) (i : ℕ) (d : Num × Tree) → i < length cases → tree_weight (get_or cases i d).1 < cases_weight cases
weight_case [] i d p = absurd (omega arith)
weight_case (c ∷ cases) zero d p = omega arith
weight_case (c ∷ cases) (suc i) d p = let h = weight_case cases i d (omega arith) in omega arith
