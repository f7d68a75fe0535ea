use Rattle.mr_runs.proofs.Common.{◌∙◌, ◌+◌, ℕ, List, length, sym, ap, arith, option_map, slice_get, values_of, SeenPiece, stamped, stamped_entry, first_pieces, pieces_past}
use Rattle.mr_runs.proofs.FindLaws.{begun_from-holder, holds_end}
use Rattle.mr_runs.proofs.ViewLaws.{clipped_entry, none_of, nth_ends, nth_within, stamped_piece_from}
use Rattle.mr_runs.proofs.views.piece_of_marks.Goals as goal

pub run_at-first-requires-clause-inside : goal.run_at-first-requires-clause-inside
run_at-first-requires-clause-inside c = let whole = c.requires.sound.whole in omega (arith, c.requires.inside, whole)

pub returns-then-len-eq0 : goal.returns-then-len-eq0
returns-then-len-eq0 c =
    sym (ap (λ (ps : List SeenPiece). slice_get ps c.args.n) (none_of (pieces_past (values_of (stamped c.args.numbers.now c.args.marks.now.entries)) c.args.from) c.args.len c.if-len-eq0.true))

pub clipped_marks-requires-clause-all : goal.clipped_marks-requires-clause-all
clipped_marks-requires-clause-all c =
    let es = c.args.marks.now.entries in
    let end = holds_end es c.args.from c.run_at-first.result.0 c.run_at-first.result.1.now c.requires.sound.tiled c.run_at-first.ensures in
    let whole = c.requires.sound.whole in
    omega (arith, end, whole)

pub returns-then-n-eq0 : goal.returns-then-n-eq0
returns-then-n-eq0 c =
    let es = c.args.marks.now.entries in
    let ns = c.args.numbers.now in
    let from = c.args.from in
    let first = c.run_at-first.result.0 in
    let p = c.run_at-first.result.1.now in
    c.clipped_marks.ensures
    ∙ sym (ap (λ (k : ℕ). slice_get (first_pieces (pieces_past (values_of (stamped ns es)) from) c.args.len) k) c.if-n-eq0.true
    ∙ stamped_piece_from es ns (length ns) from c.args.len 0 first p c.requires.sound c.run_at-first.ensures (omega arith))

pub clipped_marks-requires-in-Some-clause-inside : goal.clipped_marks-requires-in-Some-clause-inside
clipped_marks-requires-in-Some-clause-inside c =
    let es = c.args.marks.now.entries in
    let first = c.run_at-first.result.0 in
    let p = c.run_at-first.result.1.now in
    let h = c.run_at-first.ensures in
    let t = c.requires.sound.tiled in
    nth_ends es c.args.from first p c.args.n (c.in-Some.begin, c.in-Some.run'.now) t h
    (ap (λ (xs : List (ℕ × SeenPiece)). slice_get xs c.args.n) (sym (begun_from-holder es c.args.from first p t h)) ∙ sym c.in-Some.ensures)

pub clipped_marks-requires-in-Some-clause-all : goal.clipped_marks-requires-in-Some-clause-all
clipped_marks-requires-in-Some-clause-all c =
    let es = c.args.marks.now.entries in
    let first = c.run_at-first.result.0 in
    let p = c.run_at-first.result.1.now in
    let h = c.run_at-first.ensures in
    let t = c.requires.sound.tiled in
    let whole = c.requires.sound.whole in
    let end = nth_within es c.args.from first p c.args.n (c.in-Some.begin, c.in-Some.run'.now) t h
    (ap (λ (xs : List (ℕ × SeenPiece)). slice_get xs c.args.n) (sym (begun_from-holder es c.args.from first p t h)) ∙ sym c.in-Some.ensures) in
    omega (arith, end, whole)

pub returns-in-Some : goal.returns-in-Some
returns-in-Some c =
    let es = c.args.marks.now.entries in
    let ns = c.args.numbers.now in
    let from = c.args.from in
    let first = c.run_at-first.result.0 in
    let p = c.run_at-first.result.1.now in
    let h = c.run_at-first.ensures in
    c.clipped_marks-in-Some.ensures
    ∙ ap (λ o. clipped_entry (option_map (stamped_entry ns) o) from (from + c.args.len))
    (c.in-Some.ensures ∙ ap (λ (xs : List (ℕ × SeenPiece)). slice_get xs c.args.n) (begun_from-holder es from first p c.requires.sound.tiled h))
    ∙ sym (stamped_piece_from es ns (length ns) from c.args.len c.args.n first p c.requires.sound h (omega arith))

pub returns-in-None : goal.returns-in-None
returns-in-None c =
    let es = c.args.marks.now.entries in
    let ns = c.args.numbers.now in
    let from = c.args.from in
    let first = c.run_at-first.result.0 in
    let p = c.run_at-first.result.1.now in
    let h = c.run_at-first.ensures in
    ap (λ o. clipped_entry (option_map (stamped_entry ns) o) from (from + c.args.len))
    (c.in-None.ensures ∙ ap (λ (xs : List (ℕ × SeenPiece)). slice_get xs c.args.n) (begun_from-holder es from first p c.requires.sound.tiled h))
    ∙ sym (stamped_piece_from es ns (length ns) from c.args.len c.args.n first p c.requires.sound h (omega arith))
