-- A range replaced: its length, and one item more.
use Rattle.mr_runs.proofs.Common.{◌≡◌, ℕ, zero, suc, ◌+◌, ◌-◌, ◌<◌, ◌≤◌, List, [], ◌∷◌, ◌++◌, length, map, replicate, take, drop, get_or, refl, sym, ap, ◌∙◌, arith, append_assoc, length-take, length-append, take_all, drop-append-le, drop-map, length-map, map-append, take-append-le, take-map, with_range_replaced}
use Rattle.std.proofs.Common.{set}
use Rattle.std.proofs.Math.Seq.{drop-cons, set-append_seam}
use Rattle.std.proofs.lemmas.Grind.{common_steps}
use Rattle.mr_runs.proofs.ListLaws.{drop_in_append, take_in_append}

-- the list stays as long as it was
pub length-with_range_replaced : {X : Type 0} (old : List X) (from : ℕ) (new : List X) → from + length new ≤ length old → length (with_range_replaced old from new) ≡ length old
length-with_range_replaced old from new inside = grind (arith, common_steps)

-- a write behind the range that was replaced makes the range one item longer
pub set-with_range_replaced : {X : Type 0} (old : List X) (from : ℕ) (new : List X) (x : X) → from + length new < length old → set (with_range_replaced old from new) (from + length new) x ≡ with_range_replaced old from (new ++ x ∷ [])
set-with_range_replaced {X} old from new x inside =
    let at = from + length new in
    let front : length (take from old ++ new) ≡ at = omega (arith, length-take from old, length-append (take from old) new) in
    let rest : drop at old ≡ get_or old at x ∷ drop (suc at) old = drop-cons old at x inside in
    let end : suc at ≡ from + length (new ++ x ∷ []) = omega (arith, length-append new (x ∷ [])) in
    ap (λ (tail : List X). set (take from old ++ new ++ tail) at x) rest
    ∙ ap (λ k. set (take from old ++ new ++ get_or old at x ∷ drop (suc at) old) k x) (sym front)
    ∙ set-append_seam (take from old ++ new) (get_or old at x) (drop (suc at) old) x
    ∙ ap (λ k. take from old ++ new ++ x ∷ drop k old) end
    ∙ regroup (take from old) new x (drop (from + length (new ++ x ∷ [])) old)
  where
    regroup : (a b : List X) (y : X) (c : List X) → a ++ b ++ y ∷ c ≡ a ++ (b ++ y ∷ []) ++ c
    regroup a b y c = simp append_assoc

-- the step of a loop that writes the items of a range in order
pub range_grows : {X : Type 0} (old now after : List X) (from : ℕ) (done : List X) (i : ℕ) (x : X) → now ≡ with_range_replaced old from done → after ≡ set now (from + i) x → length done ≡ i → from + i < length old → after ≡ with_range_replaced old from (done ++ x ∷ [])
range_grows {X} old now after from done i x now_is after_is done_len inside =
    after_is
    ∙ ap (λ (l : List X). set l (from + i) x) now_is
    ∙ ap (λ k. set (with_range_replaced old from done) (from + k) x) (sym done_len)
    ∙ set-with_range_replaced old from done x (omega arith)

-- a range within the middle of three lists
pub replaced_inside : {X : Type 0} (front middle behind : List X) (from : ℕ) (new : List X) → length front ≤ from → from + length new ≤ length front + length middle
    → with_range_replaced (front ++ (middle ++ behind)) from new ≡ front ++ (with_range_replaced middle (from - length front) new ++ behind)
replaced_inside {X} front middle behind from new low high =
    let k = from - length front in
    let first : take from (front ++ (middle ++ behind)) ≡ front ++ take k middle =
    take_in_append from front (middle ++ behind)
    ∙ ap (λ (xs : List X). xs ++ take k (middle ++ behind)) (take_all from front low)
    ∙ ap (λ (xs : List X). front ++ xs) (take-append-le k middle behind (omega arith)) in
    let split : from + length new - length front ≡ k + length new = omega arith in
    let last : drop (from + length new) (front ++ (middle ++ behind)) ≡ drop (k + length new) middle ++ behind =
    drop_in_append (from + length new) front (middle ++ behind) (omega arith)
    ∙ ap (λ n. drop n (middle ++ behind)) split
    ∙ drop-append-le (k + length new) middle behind (omega arith) in
    ap (λ (xs : List X). xs ++ new ++ drop (from + length new) (front ++ (middle ++ behind))) first
    ∙ ap (λ (xs : List X). front ++ take k middle ++ new ++ xs) last
    ∙ regroup front (take k middle) new (drop (k + length new) middle) behind
  where
    regroup : (a b c d e : List X) → a ++ b ++ c ++ (d ++ e) ≡ a ++ (b ++ c ++ d ++ e)
    regroup a b c d e = simp append_assoc

-- a range replaced, where each item is read by f
pub map_replaced : {X Y : Type 0} (f : X → Y) (old : List X) (from : ℕ) (new : List X) → map f (with_range_replaced old from new) ≡ with_range_replaced (map f old) from (map f new)
map_replaced {X} {Y} f old from new =
    map-append f (take from old ++ new) (drop (from + length new) old)
    ∙ ap (λ (xs : List Y). xs ++ map f (drop (from + length new) old)) (map-append f (take from old) new)
    ∙ ap (λ (xs : List Y). xs ++ map f new ++ map f (drop (from + length new) old)) (sym (take-map f from old))
    ∙ ap (λ (xs : List Y). take from (map f old) ++ map f new ++ xs) (sym (drop-map f (from + length new) old))
    ∙ ap (λ n. take from (map f old) ++ map f new ++ drop (from + n) (map f old)) (sym (length-map new f))

-- a list of one item repeated, mapped
pub map_repeated : {X Y : Type 0} (f : X → Y) (count : ℕ) (x : X) → map f (replicate count x) ≡ replicate count (f x)
map_repeated f zero x = refl
map_repeated {X} {Y} f (suc k) x = ap (λ (ys : List Y). f x ∷ ys) (map_repeated f k x)
