-- Marks of steps, one a row; and lines of a text.
use Rattle.mr_picture.proofs.Common.{◌≡◌, ℕ, suc, ◌+◌, ◌-◌, ◌<◌, List, [], ◌∷◌, ◌++◌, length, get_or, drop, sym, ap, ◌∙◌, append_assoc, append-nil, arith, flat_map, Mark, as_written, rows_marks, behind_line, first_line, line_marks, tail_mark, Scene}
use Rattle.std.proofs.Common.{drop-cons}
use Rattle.std.proofs.lemmas.Grind.{flat_map-append}
use Rattle.mr_picture.specs.declared.written.Written.{Written}

-- a piece behind others, of which the rest is known
behind_rest : {Z : Type 0} (now next piece rest : List Z) → next ≡ now ++ piece → next ++ rest ≡ now ++ (piece ++ rest)
behind_rest now next piece rest more = ap (λ xs. xs ++ rest) more ∙ append_assoc now piece rest

-- the marks of one step more
pub row_taken : {X : Type 0} (marks : ℕ → X → List Mark) (now next : List Written) (row i : ℕ) (xs : List X) (d : X) → i < length xs
    → next ≡ now ++ flat_map as_written (marks row (get_or xs i d))
    → next ++ flat_map as_written (rows_marks marks (row + 1) (drop (i + 1) xs))
    ≡ now ++ flat_map as_written (rows_marks marks row (drop i xs))
row_taken marks now next row i xs d inside more =
    let x = get_or xs i d in
    let rest = rows_marks marks (row + 1) (drop (i + 1) xs) in
    let following : suc i ≡ i + 1 = omega arith in
    behind_rest now next (flat_map as_written (marks row x)) (flat_map as_written rest) more
    ∙ ap (λ ys. now ++ ys)
    (sym (flat_map-append as_written (marks row x) rest)
    ∙ ap (λ ys. flat_map as_written (rows_marks marks row ys))
    (sym (drop-cons xs i d inside ∙ ap (λ n. x ∷ drop n xs) following)))

-- the mark of one line more
pub line_taken : (s : Scene) (now next : List Written) (n count : ℕ) (text : List ℕ) → n < count
    → next ≡ now ++ as_written (tail_mark s n (first_line text))
    → next ++ flat_map as_written (line_marks s (n + 1) (count - (n + 1)) (behind_line text))
    ≡ now ++ flat_map as_written (line_marks s n (count - n) text)
line_taken s now next n count text lt more =
    let left : suc (count - (n + 1)) ≡ count - n = omega (arith, lt) in
    behind_rest now next (as_written (tail_mark s n (first_line text)))
    (flat_map as_written (line_marks s (n + 1) (count - (n + 1)) (behind_line text))) more
    ∙ ap (λ m. now ++ flat_map as_written (line_marks s n m text)) left

-- behind all of them there is nothing
pub no_rows : {X : Type 0} (marks : ℕ → X → List Mark) (now : List Written) (row : ℕ) → now ++ flat_map as_written (rows_marks marks row []) ≡ now
no_rows marks now row = append-nil now
