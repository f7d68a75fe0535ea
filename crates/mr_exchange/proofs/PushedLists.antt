-- Lists with one element more, and with another one in the place of an element.
use Rattle.mr_exchange.proofs.Common.{◌≡◌, ◌≢◌, ℕ, zero, suc, refl, ap, List, [], ◌∷◌, ◌++◌, length, Some, slice_get, slice_set, slice_get_within}
use Rattle.mr_start.proofs.PlanPositions.{set_here}

-- what is put in the place of an element stands there
pub set_same : {A : Type 0} (xs : List A) (i : ℕ) (old new : A) → slice_get xs i ≡ Some old → slice_get (slice_set xs i new) i ≡ Some new
set_same xs i old new h = set_here xs i new (slice_get_within xs i old h)

-- elsewhere nothing changes
pub push_there : {A : Type 0} (xs : List A) (x : A) (k : ℕ) → k ≢ length xs → slice_get (xs ++ x ∷ []) k ≡ slice_get xs k
push_there [] x zero d = absurd (d refl)
push_there [] x (suc k) d = refl
push_there (y ∷ xs) x zero d = refl
push_there (y ∷ xs) x (suc k) d = push_there xs x k (λ e. d (ap suc e))

-- the new element stands behind the others
pub push_here : {A : Type 0} (xs : List A) (x : A) → slice_get (xs ++ x ∷ []) (length xs) ≡ Some x
push_here [] x = refl
push_here (y ∷ xs) x = push_here xs x
