-- Induction over trees, one case for each kind, and what a tree is made of.
use Rattle.mr_ast.proofs.Common.{◌≡◌, ℕ, List, [], ◌∷◌, map, sym, ap, subst, IntType, Num, Tree, Tree-F}
use Rattle.mr_ast.specs.declared.types.Tree.{roll-Tree, out-Tree, out-roll-Tree}
use Rattle.mr_ast.specs.declared.types.Tree.TheFolds.{map-Tree, ind-Tree}
use Rattle.mr_ast.specs.declared.types.Tree.TheVariants as tree

-- the tree of each case has the property
abbrev pub AllCases : (Tree → Type 0) → List (Num × Tree) → Type 0
AllCases P [] = Unit {0}
AllCases P (c ∷ cases) = P c.1 × AllCases P cases

pub record TreeCases (P : Tree → Type 0) : Type 0 where
  pub at_known : (n : Num) → P (tree.Known n)
  pub at_invalid : P tree.Invalid
  pub at_branch : (at : ℕ) (int : IntType) (cases : List (Num × Tree)) (other : Tree) → AllCases P cases → P other → P (tree.Branch at int cases other)

module _ (P : Tree → Type 0) (kinds : TreeCases P) where
  abbrev Shown : Type 0
  Shown = (t : Tree) × P t

  cases_all : (ys : List (Num × Shown)) → AllCases P (map (λ c. (c.0, c.1.0)) ys)
  cases_all [] = tt
  cases_all (y ∷ ys) = (y.1.1, cases_all ys)

  at_layer : (y : Tree-F Shown) → P (roll-Tree (map-Tree Shown Tree (λ e. e.0) y))
  at_layer (Tree-F.Known n) = subst P (sym (tree.rolls-Known n)) (kinds.at_known n)
  at_layer Tree-F.Invalid = subst P (sym tree.rolls-Invalid) kinds.at_invalid
  at_layer (Tree-F.Branch at int ys other) =
      let cases = map (λ (c : Num × Shown). (c.0, c.1.0)) ys in
      subst P (sym (tree.rolls-Branch at int cases other.0)) (kinds.at_branch at int cases other.0 (cases_all ys) other.1)

  pub tree_induction : (t : Tree) → P t
  tree_induction = ind-Tree P (λ x y is. subst (λ z. P (roll-Tree z)) is (at_layer y))

abbrev IsMade : Tree → Type 0
IsMade t = roll-Tree (out-Tree t) ≡ t

-- a tree is made of its layer
pub tree_made : (t : Tree) → roll-Tree (out-Tree t) ≡ t
tree_made = ind-Tree IsMade (λ x y is. ap roll-Tree (out-roll-Tree x))
