-- The number that an enum's tree finds in memory is one of the enum's integers.
use Rattle.mr_eval.proofs.Common.{◌≡◌, ℕ, List, true, subst, IntType, Num, Tree, Variant, Pointer, is_fitting, TypeOk, enum_ok, Memory, Outcome, Went, found_number, Seen, Comes, searched}
use Rattle.mr_ast.specs.declared.types.Ty.TheVariants as ty
use Rattle.mr_eval.proofs.DiscSafe.{search_safe}
use Rattle.mr_eval.proofs.SafeRuns.{safe_comes}

-- what a run went to is so
pub comes_to : {A S : Type 0} (P : A → Type 0) (o : Outcome A S) (x : A) (s : S) → o ≡ Went x s → Comes P o → P x
comes_to P o x s e h = subst (Comes P) e h

pub found_fits : (size align : ℕ) (disc : IntType) (variants : List Variant) (tree : Tree) (m : Memory) (p : Pointer) (old : Seen) (n : Num) (new : Seen)
    → TypeOk (ty.Enum size align disc variants tree) → found_number m tree p old ≡ Went n new → is_fitting disc n ≡ true
unfolding found_number
found_fits size align disc variants tree m p old n new ok e =
    let parts = enum_ok size align disc variants tree ok in
    comes_to (λ k. is_fitting disc k ≡ true) _ n new e
    (safe_comes (λ k. is_fitting disc k ≡ true) m (searched tree p) (search_safe size align disc variants parts.numbered tree parts.told p) old)
