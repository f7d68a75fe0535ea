-- The types of a function with which a thread may begin.
use Rattle.mr_turn.proofs.Common.{◌≡◌, ℕ, refl, sym, ap, ◌∙◌, arith, List, [], ◌∷◌, length, Bool, true, false, Option, Some, None, same_Some, ◌&&◌, option_map, Function, Ty, both_there, kept_types, same_types, thread_types}
use Rattle.std.proofs.Common.{suc, map}
use Rattle.std.proofs.lemmas.List.{length-map}
use Rattle.mr_typing.specs.SameTypes.{same_type}
use Rattle.mr_frame.specs.Calls.{all_there, local_type}
use Rattle.mr_ast.specs.declared.types.Ty.TheVariants as ty

-- ---- as many types as there are

behind_one : {A : Type 0} (x : A) (os : Option (List A)) (xs : List A) (n : ℕ) → ((ys : List A) → os ≡ Some ys → length ys ≡ n) → option_map (λ e. e.0 ∷ e.1) (both_there (Some x) os) ≡ Some xs → length xs ≡ suc n
behind_one x None xs n h e = absurd (cc)
behind_one x (Some ys) xs n h e = ap (λ l. length l) (sym (same_Some (x ∷ ys) xs e)) ∙ ap suc (h ys refl)

all_length : {A : Type 0} (os : List (Option A)) (xs : List A) → all_there os ≡ Some xs → length xs ≡ length os
all_length [] xs e = ap (λ l. length l) (sym (same_Some [] xs e))
all_length (None ∷ os) xs e = absurd (cc)
all_length (Some x ∷ os) xs e = behind_one x (all_there os) xs (length os) (all_length os) e

last_false : (b : Bool) → (b && false) ≡ false
last_false true = refl
last_false false = refl

-- ---- the test

-- more or fewer arguments
pub other_types : (fn : Function) (types : List Ty) → (length fn.args ≡ 1 → ⊥) → kept_types fn ≡ Some types → same_types thread_types types ≡ false
other_types fn types other e = by_types types (all_length (map (local_type fn) (fn.ret ∷ fn.args)) types e ∙ ap suc (length-map fn.args (local_type fn)))
  where
    by_types : (types : List Ty) → length types ≡ suc (length fn.args) → same_types thread_types types ≡ false
    by_types [] h = refl
    by_types (t ∷ []) h = last_false (same_type (ty.Tuple 0 1 []) t)
    by_types (t ∷ u ∷ []) h = absurd (other (omega arith))
    by_types (t ∷ u ∷ v ∷ rest) h = ap (λ b. same_type (ty.Tuple 0 1 []) t && b) (last_false (same_type ty.Raw u)) ∙ last_false (same_type (ty.Tuple 0 1 []) t)
