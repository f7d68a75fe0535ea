-- The equations of `walk`, one for each kind of tree.
use Rattle.mr_value.proofs.Common.{◌≡◌, ℕ, Bool, true, false, List, [], ◌∷◌, Option, Some, None, map, refl, sym, ap, ◌∙◌, if◌then◌else◌, option_and_then, IntType, Num, Tree, int_size, same_num, Bytes, part, number_of, number_of_bits, walk, walk_case}
use Rattle.mr_ast.specs.declared.types.Tree.{roll-Tree}
use Rattle.mr_ast.specs.declared.types.Tree.TheOpen.{Tree-F}
use Rattle.mr_ast.specs.declared.types.Tree.TheFolds.{map-Tree, fold-roll-Tree}
use Rattle.mr_value.specs.Discriminants.{Walk, chosen_case, walk_step}
use Rattle.mr_ast.specs.declared.types.Tree.TheVariants as tree

chosen_case_is : (n : Num) (cases : List (Num × Tree)) (rest : Tree) (b : Bytes) → chosen_case n (map (λ c. (c.0, walk c.1)) cases) (walk rest) b ≡ walk_case n cases rest b
chosen_case_is n [] rest b = refl
chosen_case_is n (c ∷ cases) rest b = chosen (same_num c.0 n) (chosen_case_is n cases rest b)
  where
    chosen : (t : Bool) → chosen_case n (map (λ c. (c.0, walk c.1)) cases) (walk rest) b ≡ walk_case n cases rest b → (if t then walk c.1 else chosen_case n (map (λ c. (c.0, walk c.1)) cases) (walk rest)) b ≡ (if t then walk c.1 b else walk_case n cases rest b)
    chosen true e = refl
    chosen false e = e

walk_roll : (d : Tree-F Tree) (b : Bytes) → walk (roll-Tree d) b ≡ walk_step (map-Tree Tree Walk walk d) b
unfolding walk
walk_roll d b = ap (λ (r : Walk). r b) (fold-roll-Tree Walk walk_step d)

pub walk_known : (n : Num) (b : Bytes) → walk (tree.Known n) b ≡ Some n
walk_known n b = ap (λ t. walk t b) (sym (tree.rolls-Known n)) ∙ walk_roll (Tree-F.Known n) b

pub walk_invalid : (b : Bytes) → walk tree.Invalid b ≡ None
walk_invalid b = ap (λ t. walk t b) (sym tree.rolls-Invalid) ∙ walk_roll Tree-F.Invalid b

branch_then : (i : IntType) (cases : List (Num × Tree)) (rest : Tree) (b : Bytes) (o : Option ℕ) → option_and_then (λ n. chosen_case (number_of_bits i n) (map (λ c. (c.0, walk c.1)) cases) (walk rest) b) o ≡ option_and_then (λ n. walk_case (number_of_bits i n) cases rest b) o
branch_then i cases rest b None = refl
branch_then i cases rest b (Some n) = chosen_case_is (number_of_bits i n) cases rest b

pub walk_branch : (at : ℕ) (i : IntType) (cases : List (Num × Tree)) (rest : Tree) (b : Bytes) → walk (tree.Branch at i cases rest) b ≡ option_and_then (λ n. walk_case (number_of_bits i n) cases rest b) (number_of (part at (int_size i) b))
walk_branch at i cases rest b =
    ap (λ t. walk t b) (sym (tree.rolls-Branch at i cases rest)) ∙ walk_roll (Tree-F.Branch at i cases rest) b
    ∙ branch_then i cases rest b (number_of (part at (int_size i) b))

pub ruleset walk_laws = (walk_known, walk_invalid, walk_branch)
