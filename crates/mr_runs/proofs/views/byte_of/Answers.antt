use Rattle.mr_runs.proofs.Common.{◌∙◌, ℕ, List, length, sym, ap, subst, arith, slice_get, Kept, bytes_in, IsSound, IsStamped, entries_of, stamped}
use Rattle.mr_runs.proofs.StampLaws.{stamped_here}
use Rattle.mr_runs.proofs.views.byte_of.Goals as goal

pub byte_of_runs-requires-clause-tiled : goal.byte_of_runs-requires-clause-tiled
byte_of_runs-requires-clause-tiled c = (subst (λ (k : Kept). IsSound k c.requires.0) c.in-Whole.is c.requires.1).0

pub byte_of_runs-requires-clause-inside : goal.byte_of_runs-requires-clause-inside
byte_of_runs-requires-clause-inside c =
    let whole = (subst (λ (k : Kept). IsSound k c.requires.0) c.in-Whole.is c.requires.1).1 in
    let inside = c.requires.2 in
    omega (arith, whole, inside)

pub returns-in-Whole : goal.returns-in-Whole
returns-in-Whole c = ap (λ (k : Kept). slice_get (bytes_in (entries_of k)) c.args.at) c.in-Whole.is ∙ c.byte_of_runs.ensures

pub byte_of_marks-requires-clause-sound : goal.byte_of_marks-requires-clause-sound
byte_of_marks-requires-clause-sound c =
    let es = c.in-Split.marks.entries in
    let s = subst (λ (k : Kept). IsSound k c.requires.0) c.in-Split.is c.requires.1 in
    subst (λ (ns : List ℕ). IsStamped es ns (length ns)) (sym c.as_slice.ensures.value) (stamped_here es c.in-Split.numbers.items c.requires.0 s)

pub byte_of_marks-requires-clause-inside : goal.byte_of_marks-requires-clause-inside
byte_of_marks-requires-clause-inside c =
    let all = (subst (λ (k : Kept). IsSound k c.requires.0) c.in-Split.is c.requires.1).all in
    let inside = c.requires.2 in
    omega (arith, all, inside, ap length c.as_slice.ensures.value)

pub returns-in-Split : goal.returns-in-Split
returns-in-Split c =
    ap (λ (k : Kept). slice_get (bytes_in (entries_of k)) c.args.at) c.in-Split.is
    ∙ ap (λ (ns : List ℕ). slice_get (bytes_in (stamped ns c.in-Split.marks.entries)) c.args.at) (sym c.as_slice.ensures.value)
    ∙ c.byte_of_marks.ensures
