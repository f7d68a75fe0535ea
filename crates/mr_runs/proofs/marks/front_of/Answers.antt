use Rattle.mr_runs.proofs.Common.{◌≡◌, ◌∙◌, ℕ, ◌-◌, List, [], ◌∷◌, ◌++◌, take, sym, ap, subst, arith, IsBegun, SeenPiece, piece_len, bytes_in, first_piece, piece_past}
use Rattle.mr_runs.proofs.RowLaws.{begun_front}
use Rattle.mr_runs.proofs.StampLaws.{part_marked, piece_len-marked}
use Rattle.mr_runs.proofs.marks.front_of.Goals as goal

pub returns : goal.returns
returns c =
    let es = c.args.marks.now.entries in
    let begin = c.run_at-begin.result.0 in
    let p = c.run_at-begin.result.1.now in
    let h = c.run_at-begin.ensures in
    let high = h.to in
    let len = c.told-mark.result.0 in
    let mark = c.told-mark.result.1 in
    let whole : piece_len p ≡ len = ap piece_len c.told-mark.ensures ∙ piece_len-marked len mark in
    let kept = c.marked.result in
    let is : kept ≡ first_piece (piece_past p 0) (c.args.from - begin) =
    c.marked.ensures ∙ part_marked len 0 (c.args.from - begin) mark (omega (arith, whole, high)) ∙ ap (λ (q : SeenPiece). first_piece (piece_past q 0) (c.args.from - begin)) (sym c.told-mark.ensures) in
    let row : c.push.new.self.items ≡ (begin, kept) ∷ [] = c.in_ok-push.ensures.items ∙ ap (λ (xs : List (ℕ × SeenPiece)). xs ++ (begin, kept) ∷ []) c.new-row.ensures.items in
    let P : List (ℕ × SeenPiece) → Type 0 = λ xs. IsBegun es xs (take c.args.from (bytes_in es)) in
    subst P (sym row) (begun_front es c.args.from begin p kept c.requires.tiled (omega arith) h is)
