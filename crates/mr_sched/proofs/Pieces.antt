-- What stands behind the old contents after some of a text was printed.
use Rattle.mr_sched.proofs.Common.{◌≡◌, ℕ, List, ◌++◌, Result, Ok, Err, ap, ◌∙◌, append_assoc, Extends}
use Rattle.std.specs.Prelude.{OnErr}

pub on_err_since : {T E P : Type 0} (r : Result T E) → P → OnErr r P
on_err_since (Ok x) p = tt
on_err_since (Err e) p = p

-- two pieces that were written one after the other
pub extended_twice : (old mid new x y : List ℕ) → mid ≡ old ++ x → new ≡ mid ++ y → Extends old new
extended_twice old mid new x y p q = (x ++ y, q ∙ ap (λ (w : List ℕ). w ++ y) p ∙ append_assoc old x y)
