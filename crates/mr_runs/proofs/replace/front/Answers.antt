use Rattle.mr_runs.proofs.Common.{◌≡◌, ◌∙◌, ℕ, ◌-◌, List, [], ◌∷◌, ◌++◌, take, sym, ap, subst, arith, IsBegun, SeenPiece, bytes_in, first_piece, piece_past}
use Rattle.mr_runs.proofs.RowLaws.{begun_front}
use Rattle.mr_runs.proofs.replace.front.Goals as goal

pub returns : goal.returns
returns c =
    let es = c.args.runs.now.entries in
    let begin = c.run_at-begin.result.0 in
    let p = c.run_at-begin.result.1.now in
    let kept = c.in_ok-kept.kept in
    let is : kept ≡ first_piece (piece_past p 0) (c.args.from - begin) = c.in_ok-kept.ensures ∙ c.part.ensures in
    let row : c.push.new.self.items ≡ (begin, kept) ∷ [] = c.in_ok-push.ensures.items ∙ ap (λ (xs : List (ℕ × SeenPiece)). xs ++ (begin, kept) ∷ []) c.new-row.ensures.items in
    let P : List (ℕ × SeenPiece) → Type 0 = λ xs. IsBegun es xs (take c.args.from (bytes_in es)) in
    subst P (sym row) (begun_front es c.args.from begin p kept c.requires.tiled (omega arith) c.run_at-begin.ensures is)
