-- What the search for a discriminant comes to, by the kind of tree.
use Rattle.mr_eval.proofs.Common.{◌≡◌, ℕ, List, [], ◌∷◌, Bool, true, false, refl, ap, ◌∙◌, if◌then◌else◌, plainly, IntType, Num, Tree, Pointer, InvalidDiscriminant, same_num, Memory, Refused, Went, on, run, on_same, run_bind, ReadScript, Seen, reading, behind, case_search, numbered, searched, chosen_number, found_number, read_number}
use Rattle.mr_ast.specs.declared.types.Tree.TheVariants as tree
use Rattle.mr_eval.proofs.DiscSafe.{search_branch, search_invalid, search_known, searches}

pub found_known : (m : Memory) (n : Num) (p : Pointer) (seen : Seen) → found_number m (tree.Known n) p seen ≡ Went n seen
unfolding found_number
found_known m n p seen = ap (λ (s : ReadScript Num). run (reading m) s seen) (search_known n p)

pub found_invalid : (m : Memory) (p : Pointer) (seen : Seen) → found_number m tree.Invalid p seen ≡ Refused (plainly InvalidDiscriminant)
unfolding found_number
found_invalid m p seen = ap (λ (s : ReadScript Num). run (reading m) s seen) (search_invalid p)

chosen_is : (m : Memory) (n : Num) (cases : List (Num × Tree)) (rest : Tree) (p : Pointer) (seen : Seen) → run (reading m) (case_search n (searches cases) (searched rest) p) seen ≡ chosen_number m n cases rest p seen
unfolding found_number
chosen_is m n [] rest p seen = refl
chosen_is m n (c ∷ cases) rest p seen = chosen (same_num c.0 n) (chosen_is m n cases rest p seen)
  where
    chosen : (b : Bool) → run (reading m) (case_search n (searches cases) (searched rest) p) seen ≡ chosen_number m n cases rest p seen
        → run (reading m) ((if b then searched c.1 else case_search n (searches cases) (searched rest)) p) seen ≡ (if b then found_number m c.1 p seen else chosen_number m n cases rest p seen)
    chosen true e = refl
    chosen false e = e

pub found_branch : (m : Memory) (at : ℕ) (int : IntType) (cases : List (Num × Tree)) (rest : Tree) (p : Pointer) (seen : Seen)
    → found_number m (tree.Branch at int cases rest) p seen ≡ on (read_number m int (behind p at) seen) (λ n s. chosen_number m n cases rest p s)
unfolding found_number read_number
found_branch m at int cases rest p seen =
    ap (λ (s : ReadScript Num). run (reading m) s seen) (search_branch at int cases rest p)
    ∙ run_bind (reading m) (numbered int (behind p at)) (λ n. case_search n (searches cases) (searched rest) p) seen
    ∙ on_same (run (reading m) (numbered int (behind p at)) seen) _ _ (λ n s. chosen_is m n cases rest p s)

pub ruleset found_laws = (found_known, found_invalid, found_branch)
