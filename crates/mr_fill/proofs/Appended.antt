-- Texts that are written piece by piece.
use Rattle.mr_fill.proofs.Common.{◌≡◌, ℕ, List, ◌++◌, append_assoc, ap, ◌∙◌}

-- a piece behind the first ones
pub behind : (old first piece now next : List ℕ) → now ≡ old ++ first → next ≡ now ++ piece
    → next ≡ old ++ (first ++ piece)
behind old first piece now next here more = more ∙ ap (λ xs. xs ++ piece) here ∙ append_assoc old first piece
