use Rattle.mr_runs.proofs.Common.{◌∙◌, ◌+◌, ℕ, List, sym, ap, arith, slice_get, values_of, SeenPiece, first_pieces, pieces_past}
use Rattle.mr_runs.proofs.FindLaws.{begun_from-holder}
use Rattle.mr_runs.proofs.ViewLaws.{clipped_entry, none_of, nth_ends, piece_from_holder}
use Rattle.mr_runs.proofs.views.piece_of_runs.Goals as goal

pub returns-then-len-eq0 : goal.returns-then-len-eq0
returns-then-len-eq0 c =
    sym (ap (λ (ps : List SeenPiece). slice_get ps c.args.n) (none_of (pieces_past (values_of c.args.runs.now.entries) c.args.from) c.args.len c.if-len-eq0.true))

pub returns-then-n-eq0 : goal.returns-then-n-eq0
returns-then-n-eq0 c =
    let es = c.args.runs.now.entries in
    let from = c.args.from in
    let first = c.run_at-first.result.0 in
    let p = c.run_at-first.result.1.now in
    let h = c.run_at-first.ensures in
    c.clipped.ensures
    ∙ sym (ap (λ (k : ℕ). slice_get (first_pieces (pieces_past (values_of es) from) c.args.len) k) c.if-n-eq0.true
    ∙ piece_from_holder es from c.args.len 0 first p c.requires.tiled h (omega arith))

pub clipped-requires-in-Some-clause-inside : goal.clipped-requires-in-Some-clause-inside
clipped-requires-in-Some-clause-inside c =
    let es = c.args.runs.now.entries in
    let first = c.run_at-first.result.0 in
    let p = c.run_at-first.result.1.now in
    let h = c.run_at-first.ensures in
    nth_ends es c.args.from first p c.args.n (c.in-Some.begin, c.in-Some.run'.now) c.requires.tiled h
    (ap (λ (xs : List (ℕ × SeenPiece)). slice_get xs c.args.n) (sym (begun_from-holder es c.args.from first p c.requires.tiled h)) ∙ sym c.in-Some.ensures)

pub returns-in-Some : goal.returns-in-Some
returns-in-Some c =
    let es = c.args.runs.now.entries in
    let from = c.args.from in
    let first = c.run_at-first.result.0 in
    let p = c.run_at-first.result.1.now in
    let h = c.run_at-first.ensures in
    c.clipped-in-Some.ensures
    ∙ ap (λ o. clipped_entry o from (from + c.args.len)) (c.in-Some.ensures ∙ ap (λ (xs : List (ℕ × SeenPiece)). slice_get xs c.args.n) (begun_from-holder es from first p c.requires.tiled h))
    ∙ sym (piece_from_holder es from c.args.len c.args.n first p c.requires.tiled h (omega arith))

pub returns-in-None : goal.returns-in-None
returns-in-None c =
    let es = c.args.runs.now.entries in
    let from = c.args.from in
    let first = c.run_at-first.result.0 in
    let p = c.run_at-first.result.1.now in
    let h = c.run_at-first.ensures in
    ap (λ o. clipped_entry o from (from + c.args.len)) (c.in-None.ensures ∙ ap (λ (xs : List (ℕ × SeenPiece)). slice_get xs c.args.n) (begun_from-holder es from first p c.requires.tiled h))
    ∙ sym (piece_from_holder es from c.args.len c.args.n first p c.requires.tiled h (omega arith))
