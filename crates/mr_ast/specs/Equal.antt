-- Which types are equal, as an answer: each type has a code, which is a tree of numbers, and different types have different codes.
use Rattle.std.specs.Prelude.{◌≡◌, Bool, true, false, ◌&&◌, ◌==◌}
use Rattle.std.specs.Bool.{Decides}
use Rattle.std.specs.Cmp.{unsigned_Decides, first_so, second_so}
use Rattle.std.specs.Cmp.Derive.{both_true}
use Rattle.std.proofs.Common.{refl, sym, ap, subst, true≢false}
use base.Stored.{Gv, gnil, gnum, gcons}
use Rattle.mr_ast.specs.declared.types.Ty.{Ty}
use Rattle.mr_ast.specs.contracts.types.Ty.{the_row}

-- two codes are the same, number by number
abbrev pub same_code : Gv → Gv → Bool
same_code gnil gnil = true
same_code (gnum n) (gnum m) = n == m
same_code (gcons a b) (gcons c d) = same_code a c && same_code b d
same_code _ _ = false

-- two types have the same code
unfoldable pub equal_types : Ty → Ty → Bool
equal_types t u = same_code (the_row.coded.code t) (the_row.coded.code u)

-- codes that are the same are equal
pub same_equal : (a b : Gv) → same_code a b ≡ true → a ≡ b
same_equal gnil gnil e = refl
same_equal (gnum n) (gnum m) e = ap gnum ((unsigned_Decides n m).0 e)
same_equal (gcons a b) (gcons c d) e =
    λ i. gcons
    (same_equal a c (first_so (same_code a c) (same_code b d) e) i)
    (same_equal b d (second_so (same_code a c) (same_code b d) e) i)
same_equal _ _ e = absurd (true≢false (sym e))

-- and each is the same as itself
pub same_itself : (a : Gv) → same_code a a ≡ true
same_itself gnil = refl
same_itself (gnum n) = (unsigned_Decides n n).1 refl
same_itself (gcons a b) = both_true (same_itself a) (same_itself b)

-- so the answer is true exactly where the types are equal
pub equal_types_decides : (t u : Ty) → Decides (equal_types t u) (t ≡ u)
unfolding equal_types
equal_types_decides t u =
    let code = the_row.coded.code in (
      λ e. the_row.coded.inj t u (same_equal (code t) (code u) e),
      λ e. subst (λ (x : Ty). same_code (code t) (code x) ≡ true) e (same_itself (code t)),
    )
