-- Types in a row, of locals or of values, one after another.
use Rattle.mr_frame.proofs.Common.{◌≡◌, refl, sym, List, [], ◌∷◌, Option, None, Some, same_Some, option_map, all_there, both_there}

-- the first of them, and those behind it
pub record First {A : Type 0} (o : Option A) (os : List (Option A)) (xs : List A) : Type 0 where
  pub first : A
  pub rest : List A
  pub is : xs ≡ first ∷ rest
  pub here : o ≡ Some first
  pub behind : all_there os ≡ Some rest

pub first_there : {A : Type 0} (o : Option A) (os : List (Option A)) (xs : List A) → all_there (o ∷ os) ≡ Some xs → First o os xs
first_there {A = A} o os xs e = by_parts o (all_there os) refl refl e
  where
    by_parts : (x : Option A) (rest : Option (List A)) → o ≡ x → all_there os ≡ rest → option_map (λ e. e.0 ∷ e.1) (both_there x rest) ≡ Some xs → First o os xs
    by_parts (Some x) (Some rest) here behind h = record { first = x; rest = rest; is = sym (same_Some (x ∷ rest) xs h); here = here; behind = behind }
    by_parts None rest here behind h = absurd (cc)
    by_parts (Some x) None here behind h = absurd (cc)

-- nothing more
pub none_there : {A : Type 0} (xs : List A) → all_there [] ≡ Some xs → xs ≡ []
none_there xs e = sym (same_Some [] xs e)
