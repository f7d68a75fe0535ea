-- A branch of a tree that breaks no rule: its parts break none, and it reads inside.
use Rattle.mr_value.proofs.Common.{◌≡◌, ℕ, zero, suc, ◌+◌, ◌<◌, ◌≤◌, true, List, [], ◌∷◌, length, get_or, sym, ap, ◌∙◌, arith, not, nat_le, option_and_then, and_parts, IntType, Num, Tree, Variant, int_size, is_fitting, is_tree, are_tree_cases, Bytes, part, number_of, number_of_bits, walk, walk_case, le_from}
use Rattle.mr_layout.specs.EnumRules.{is_case}
use Rattle.mr_layout.proofs.TreeLaws.{tree_branch}
use Rattle.mr_ast.specs.declared.types.Tree.TheVariants as tree
use Rattle.mr_value.proofs.PartLaws.{part_part}
use Rattle.mr_value.proofs.WalkLaws.{walk_branch}

pub record BranchParts (size : ℕ) (variants : List Variant) (at : ℕ) (int : IntType) (cases : List (Num × Tree)) (rest : Tree) : Type 0 where
  pub inside : at + int_size int ≤ size
  pub cases_ok : are_tree_cases size variants int cases ≡ true
  pub rest_ok : is_tree size variants rest ≡ true

pub branch_parts : (size : ℕ) (variants : List Variant) (at : ℕ) (int : IntType) (cases : List (Num × Tree)) (rest : Tree) → is_tree size variants (tree.Branch at int cases rest) ≡ true → BranchParts size variants at int cases rest
branch_parts size variants at int cases rest e =
    let a = and_parts (nat_le (at + int_size int) size) _ (sym (tree_branch size variants at int cases rest) ∙ e) in
    let b = and_parts (are_tree_cases size variants int cases) (is_tree size variants rest) a.1 in
    record { inside = le_from (at + int_size int) size a.0; cases_ok = b.0; rest_ok = b.1 }

-- the first case breaks no rule, nor do the others
first_case : (size : ℕ) (variants : List Variant) (int : IntType) (c : Num × Tree) (cases : List (Num × Tree)) → are_tree_cases size variants int (c ∷ cases) ≡ true → (is_tree size variants c.1 ≡ true) × (are_tree_cases size variants int cases ≡ true)
first_case size variants int c cases e =
    let a = and_parts (is_fitting int c.0) _ e in
    let b = and_parts (not (is_case c.0 cases)) _ a.1 in
    and_parts (is_tree size variants c.1) (are_tree_cases size variants int cases) b.1

pub case_ok : (size : ℕ) (variants : List Variant) (int : IntType) (cases : List (Num × Tree)) (i : ℕ) (d : Num × Tree) → i < length cases → are_tree_cases size variants int cases ≡ true → is_tree size variants (get_or cases i d).1 ≡ true
case_ok size variants int [] i d p e = absurd (omega arith)
case_ok size variants int (c ∷ cases) zero d p e = (first_case size variants int c cases e).0
case_ok size variants int (c ∷ cases) (suc i) d p e = case_ok size variants int cases i d (omega arith) (first_case size variants int c cases e).1

pub branch_reads : (b : Bytes) (at size offset : ℕ) (int : IntType) (cases : List (Num × Tree)) (rest : Tree) → offset + int_size int ≤ size
    → walk (tree.Branch offset int cases rest) (part at size b) ≡ option_and_then (λ bits. walk_case (number_of_bits int bits) cases rest (part at size b)) (number_of (part (at + offset) (int_size int) b))
branch_reads b at size offset int cases rest p =
    walk_branch offset int cases rest (part at size b)
    ∙ ap (λ (x : Bytes). option_and_then (λ bits. walk_case (number_of_bits int bits) cases rest (part at size b)) (number_of x)) (part_part b at size offset (int_size int) p)
