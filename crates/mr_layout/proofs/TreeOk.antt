-- What a tree without a fault keeps, and which variant a number names.
use Rattle.mr_layout.proofs.Common.{◌≡◌, ℕ, ◌+◌, ◌≤◌, Bool, true, false, List, refl, sym, ap, ◌∙◌, nat_le, not, ◌==◌, if◌then◌else◌, and_parts, IntType, Num, Tree, Variant, int_size, same_num, is_number_of, is_tree, are_tree_cases, le_from, eq_from}
use Rattle.mr_ast.specs.declared.types.Tree.TheVariants as tree
use Rattle.mr_layout.proofs.TreeLaws.{tree_known, tree_branch}

-- a branch reads inside the size, and its cases and the rest have no fault
pub record BranchOk (size : ℕ) (variants : List Variant) (at : ℕ) (int : IntType) (cases : List (Num × Tree)) (rest : Tree) : Type 0 where
  pub inside : at + int_size int ≤ size
  pub told : are_tree_cases size variants int cases ≡ true
  pub other : is_tree size variants rest ≡ true

pub branch_ok : (size : ℕ) (variants : List Variant) (at : ℕ) (int : IntType) (cases : List (Num × Tree)) (rest : Tree) → is_tree size variants (tree.Branch at int cases rest) ≡ true → BranchOk size variants at int cases rest
branch_ok size variants at int cases rest ok =
    let a = and_parts (nat_le (at + int_size int) size) _ (sym (tree_branch size variants at int cases rest) ∙ ok) in
    let b = and_parts (are_tree_cases size variants int cases) (is_tree size variants rest) a.1 in
    record { inside = le_from (at + int_size int) size a.0; told = b.0; other = b.1 }

-- a leaf names a variant
pub leaf_ok : (size : ℕ) (variants : List Variant) (n : Num) → is_tree size variants (tree.Known n) ≡ true → is_number_of n variants ≡ true
leaf_ok size variants n ok = sym (tree_known size variants n) ∙ ok

same_sign : (a b : Bool) → (if a then b else not b) ≡ true → a ≡ b
same_sign true true e = refl
same_sign true false e = cc
same_sign false true e = cc
same_sign false false e = refl

abbrev numbered : Bool → ℕ → Num
numbered sign n = record { neg = sign; mag = n }

-- numbers that are written alike are equal
pub same_num_equal : (a b : Num) → same_num a b ≡ true → a ≡ b
same_num_equal a b e =
    let p = and_parts (if a.neg then b.neg else not b.neg) (a.mag == b.mag) e in
    ap (λ (sign : Bool). numbered sign a.mag) (same_sign a.neg b.neg p.0) ∙ ap (λ (n : ℕ). numbered b.neg n) (eq_from a.mag b.mag p.1)
