-- Lists that a loop makes of the elements of another one.
use Rattle.mr_traced.proofs.Common.{◌≡◌, ℕ, ◌+◌, ◌<◌, Bool, cond, List, [], ◌∷◌, ◌++◌, length, get_or, take, map, refl, sym, ap, ap₂, ◌∙◌, flat_map, None, Some}
use Rattle.std.proofs.lemmas.List.{flat_map_more, length-map, take_more}
use Rattle.std.specs.Prelude.{not, nat_lt, position}
use Rattle.std.specs.List.{position_or_len}

-- one element more
pub next_made : {X Y : Type 0} (f : X → List Y) (now next : List Y) (xs : List X) (i : ℕ) (d : X) → i < length xs
    → now ≡ flat_map f (take i xs) → next ≡ now ++ f (get_or xs i d) → next ≡ flat_map f (take (i + 1) xs)
next_made f now next xs i d inside here more =
    more ∙ ap (λ ys. ys ++ f (get_or xs i d)) here ∙ flat_map_more f [] (take i xs) (get_or xs i d)
    ∙ ap (flat_map f) (sym (take_more xs i d inside))

-- the first that passes a test, where each is seen by a view
first_seen : {X Y : Type 0} (p : Y → Bool) (v : X → Y) (xs : List X)
    → position_or_len p (map v xs) ≡ position_or_len (λ x. p (v x)) xs
first_seen p v [] = refl
first_seen p v (x ∷ xs) = ap (λ n. cond (not (p (v x))) (1 + n) 0) (first_seen p v xs)

pub position_seen : {X Y : Type 0} (p : Y → Bool) (v : X → Y) (xs : List X)
    → position p (map v xs) ≡ position (λ x. p (v x)) xs
position_seen p v xs = ap₂ (λ (n m : ℕ). cond (nat_lt n m) (Some n) None) (first_seen p v xs) (length-map xs v)
