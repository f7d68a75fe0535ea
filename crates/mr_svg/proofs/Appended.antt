-- Texts that are written piece by piece.
use Rattle.std.proofs.Common.{◌≡◌, ℕ, List, ◌++◌, Result, Ok, Err, append_assoc, ap, ◌∙◌}
use Rattle.std.specs.Prelude.{OnOk}

-- a piece behind the first ones
pub behind : (old first piece now next : List ℕ) → now ≡ old ++ first → next ≡ now ++ piece
    → next ≡ old ++ (first ++ piece)
behind old first piece now next here more = more ∙ ap (λ xs. xs ++ piece) here ∙ append_assoc old first piece

-- the same of the last one, where the memory may be used up
pub last_behind : {T E : Type 0} (r : Result T E) (old first piece now next : List ℕ) → now ≡ old ++ first
    → OnOk r (next ≡ now ++ piece) → OnOk r (next ≡ old ++ (first ++ piece))
last_behind (Ok x) old first piece now next here more = behind old first piece now next here more
last_behind (Err e) old first piece now next here more = tt
