use Rattle.mr_value.proofs.Common.{◌≡◌, ◌∙◌, ◌+◌, ◌-◌, List, Some, length, drop, sym, ap, arith, slice_get, SeenPiece, InitPiece, bytes_of_pieces}
use Rattle.std.proofs.lemmas.Option.{slice_get_within}
use Rattle.mr_runs.specs.Seen.{seen_piece}
use Rattle.mr_value.proofs.SpelledLaws.{fewer_pieces, len_from, number_fits, pieces_past_last, spelled_empty, spells_more, spells_none, spells_uninit, wider}
use Rattle.mr_value.proofs.numbers.+spelled_from.Goals as goal

pub overflow_add-n : goal.overflow_add-n
overflow_add-n t c =
    let ps = c.args.v.now in
    let within = slice_get_within ps c.args.n (seen_piece c.in-Some-Bytes.field-0) (sym c.in-Some-Bytes.ensures) in
    omega (arith, within, fewer_pieces ps c.requires.maximal, c.len-bytes.ensures)

pub spelled_from-requires : goal.spelled_from-requires
spelled_from-requires t c =
    let ps = c.args.v.now in
    let numbers = c.in-Some-Bytes.numbers.now in
    let is : slice_get ps c.args.n ≡ Some (InitPiece numbers c.in-Some-Bytes.provenance) = sym c.in-Some-Bytes.ensures ∙ ap (λ q. Some (seen_piece q)) c.in-Some-Bytes.field-0-is in
    let within = slice_get_within ps c.args.n (InitPiece numbers c.in-Some-Bytes.provenance) is in
    (omega (arith, c.decreases, within), (c.requires.maximal, omega (arith, c.requires.few, len_from ps c.args.n (InitPiece numbers c.in-Some-Bytes.provenance) is)))

pub number_with-requires-clause-few : goal.number_with-requires-clause-few
number_with-requires-clause-few t c =
    let ps = c.args.v.now in
    let is : slice_get ps c.args.n ≡ Some (InitPiece c.in-Some-Bytes.numbers.now c.in-Some-Bytes.provenance) = sym c.in-Some-Bytes.ensures ∙ ap (λ q. Some (seen_piece q)) c.in-Some-Bytes.field-0-is in
    omega (arith, c.requires.few, len_from ps c.args.n (InitPiece c.in-Some-Bytes.numbers.now c.in-Some-Bytes.provenance) is)

pub number_with-requires-clause-fits : goal.number_with-requires-clause-fits
number_with-requires-clause-fits t c =
    let ps = c.args.v.now in
    let numbers = c.in-Some-Bytes.numbers.now in
    let is : slice_get ps c.args.n ≡ Some (InitPiece numbers c.in-Some-Bytes.provenance) = sym c.in-Some-Bytes.ensures ∙ ap (λ q. Some (seen_piece q)) c.in-Some-Bytes.field-0-is in
    wider (length (bytes_of_pieces (drop (c.args.n + 1) ps))) (16 - length numbers) c.in-Some.rest.number
    (omega (arith, c.requires.few, len_from ps c.args.n (InitPiece numbers c.in-Some-Bytes.provenance) is))
    (number_fits (bytes_of_pieces (drop (c.args.n + 1) ps)) c.in-Some.rest.number c.in-Some.ensures.0)

pub returns-then-left-eq0 : goal.returns-then-left-eq0
returns-then-left-eq0 t c =
    let none : length (bytes_of_pieces (drop c.args.n c.args.v.now)) ≡ 0 = omega (arith, c.requires.left, c.if-left-eq0.true) in
    spelled_empty (bytes_of_pieces (drop c.args.n c.args.v.now)) none

pub unreachable-requires : goal.unreachable-requires
unreachable-requires t c =
    let none : length (bytes_of_pieces (drop c.args.n c.args.v.now)) ≡ 0 =
    ap (λ (ps : List SeenPiece). length (bytes_of_pieces ps)) (pieces_past_last c.args.v.now c.args.n (sym c.in-None.ensures)) in
    c.if-left-eq0.false (omega (arith, c.requires.left, none))

pub overflow_sub-left : goal.overflow_sub-left
overflow_sub-left t c =
    let ps = c.args.v.now in
    let is : slice_get ps c.args.n ≡ Some (InitPiece c.in-Some-Bytes.numbers.now c.in-Some-Bytes.provenance) = sym c.in-Some-Bytes.ensures ∙ ap (λ q. Some (seen_piece q)) c.in-Some-Bytes.field-0-is in
    omega (arith, c.requires.left, len_from ps c.args.n (InitPiece c.in-Some-Bytes.numbers.now c.in-Some-Bytes.provenance) is)

pub returns-in-Some-Uninit : goal.returns-in-Some-Uninit
returns-in-Some-Uninit t c =
    spells_uninit c.args.v.now c.args.n c.requires.maximal c.in-Some-Uninit.field-0-0 (sym c.in-Some-Uninit.ensures ∙ ap (λ q. Some (seen_piece q)) c.in-Some-Uninit.field-0-is)

pub returns-in-None-spelled_from : goal.returns-in-None-spelled_from
returns-in-None-spelled_from t c =
    spells_none c.args.v.now c.args.n c.requires.maximal c.in-Some-Bytes.numbers.now c.in-Some-Bytes.provenance
    (sym c.in-Some-Bytes.ensures ∙ ap (λ q. Some (seen_piece q)) c.in-Some-Bytes.field-0-is) c.in-None-spelled_from.ensures

pub returns-in-Some : goal.returns-in-Some
returns-in-Some t c =
    rw (c.number_with.ensures, c.sharing_with.ensures)
    (spells_more c.args.v.now c.args.n c.requires.maximal c.in-Some-Bytes.numbers.now c.in-Some-Bytes.provenance c.in-Some.rest
    (sym c.in-Some-Bytes.ensures ∙ ap (λ q. Some (seen_piece q)) c.in-Some-Bytes.field-0-is) c.in-Some.ensures)
