-- Texts that are written piece by piece, and line after line.
use Rattle.mr_next.proofs.Common.{◌≡◌, ℕ, ◌+◌, ◌<◌, List, ◌++◌, Ok, ap, get_or, length, sym, take, ◌∙◌, take_more, OnOk, flat_map}
use Rattle.std.proofs.Common.{Result, Err, append_assoc}
use Rattle.std.proofs.lemmas.List.{flat_map_more}

-- a piece behind the first ones
pub behind : (old first piece now next : List ℕ) → now ≡ old ++ first → next ≡ now ++ piece
    → next ≡ old ++ (first ++ piece)
behind old first piece now next here more = more ∙ ap (λ xs. xs ++ piece) here ∙ append_assoc old first piece

-- the same of the last one, where the memory may be used up
pub last_behind : {T E : Type 0} (r : Result T E) (old first piece now next : List ℕ) → now ≡ old ++ first
    → OnOk r (next ≡ now ++ piece) → OnOk r (next ≡ old ++ (first ++ piece))
last_behind (Ok x) old first piece now next here more = behind old first piece now next here more
last_behind (Err e) old first piece now next here more = tt

-- the line of one element more of a list
pub line_behind : {X : Type 0} (line : X → List ℕ) (old now next : List ℕ) (xs : List X) (i : ℕ) (d : X)
    → i < length xs → now ≡ old ++ flat_map line (take i xs) → next ≡ now ++ line (get_or xs i d)
    → next ≡ old ++ flat_map line (take (i + 1) xs)
line_behind line old now next xs i d inside here more =
    more ∙ ap (λ ys. ys ++ line (get_or xs i d)) here ∙ flat_map_more line old (take i xs) (get_or xs i d)
    ∙ ap (λ ys. old ++ flat_map line ys) (sym (take_more xs i d inside))

-- the same where the element is read
pub read_behind : {X : Type 0} (line : X → List ℕ) (old now next : List ℕ) (xs : List X) (i : ℕ) (x : X)
    → i < length xs → x ≡ get_or xs i x → now ≡ old ++ flat_map line (take i xs) → next ≡ now ++ line x
    → next ≡ old ++ flat_map line (take (i + 1) xs)
read_behind line old now next xs i x inside is here more =
    line_behind line old now next xs i x inside here (more ∙ ap (λ y. now ++ line y) is)
