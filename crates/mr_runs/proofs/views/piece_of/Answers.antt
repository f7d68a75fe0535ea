use Rattle.mr_runs.proofs.Common.{◌∙◌, ℕ, List, length, Some, sym, ap, subst, arith, slice_get, Kept, lent_pieces, IsSound, IsStamped, stamped, values_of, first_pieces, pieces_past}
use Rattle.mr_runs.proofs.StampLaws.{stamped_here}
use Rattle.mr_runs.proofs.views.piece_of.Goals as goal

pub piece_of_runs-requires-clause-tiled : goal.piece_of_runs-requires-clause-tiled
piece_of_runs-requires-clause-tiled c = (subst (λ (k : Kept). IsSound k c.requires.0) c.in-Whole.is c.requires.1).0

pub piece_of_runs-requires-clause-inside : goal.piece_of_runs-requires-clause-inside
piece_of_runs-requires-clause-inside c =
    let whole = (subst (λ (k : Kept). IsSound k c.requires.0) c.in-Whole.is c.requires.1).1 in
    let inside = c.requires.2 in
    omega (arith, whole, inside)

pub piece_of_runs-requires-clause-fits : goal.piece_of_runs-requires-clause-fits
piece_of_runs-requires-clause-fits c = c.requires.3

pub returns-in-Whole : goal.returns-in-Whole
returns-in-Whole c = c.piece_of_runs.ensures ∙ ap (λ (k : Kept). slice_get (lent_pieces (Some k) c.args.from c.args.len) c.args.n) (sym c.in-Whole.is)

pub piece_of_marks-requires-clause-sound : goal.piece_of_marks-requires-clause-sound
piece_of_marks-requires-clause-sound c =
    let es = c.in-Split.marks.entries in
    let s = subst (λ (k : Kept). IsSound k c.requires.0) c.in-Split.is c.requires.1 in
    subst (λ (ns : List ℕ). IsStamped es ns (length ns)) (sym c.as_slice.ensures.value) (stamped_here es c.in-Split.numbers.items c.requires.0 s)

pub piece_of_marks-requires-clause-inside : goal.piece_of_marks-requires-clause-inside
piece_of_marks-requires-clause-inside c =
    let all = (subst (λ (k : Kept). IsSound k c.requires.0) c.in-Split.is c.requires.1).all in
    let inside = c.requires.2 in
    omega (arith, all, inside, ap length c.as_slice.ensures.value)

pub piece_of_marks-requires-clause-fits : goal.piece_of_marks-requires-clause-fits
piece_of_marks-requires-clause-fits c = c.requires.3

pub returns-in-Split : goal.returns-in-Split
returns-in-Split c =
    c.piece_of_marks.ensures
    ∙ ap (λ (ns : List ℕ). slice_get (first_pieces (pieces_past (values_of (stamped ns c.in-Split.marks.entries)) c.args.from) c.args.len) c.args.n) c.as_slice.ensures.value
    ∙ ap (λ (k : Kept). slice_get (lent_pieces (Some k) c.args.from c.args.len) c.args.n) (sym c.in-Split.is)
