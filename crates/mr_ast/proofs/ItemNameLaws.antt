-- The text of a name whose position has nothing.
use Rattle.mr_ast.proofs.Common.{◌≡◌, ℕ, zero, suc, List, [], ◌∷◌, map, slice_get, None, refl, text_at}

pub text_missing : {X : Type 0} (f : X → List ℕ) (xs : List X) (k : ℕ) → slice_get xs k ≡ None → text_at (map f xs) k ≡ []
text_missing f [] k none = refl
text_missing f (x ∷ xs) zero none = absurd (cc)
text_missing f (x ∷ xs) (suc k) none = text_missing f xs k none
