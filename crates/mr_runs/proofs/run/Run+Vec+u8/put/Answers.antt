use Rattle.mr_runs.proofs.Common.{◌≡◌, ◌∙◌, ℕ, List, length, map, sym, ap, subst, arith, with_items_is, piece_of_content, number_of, IsInPlace, SeenPiece, InitPiece, bytes_of_piece, with_range_replaced}
use Rattle.mr_runs.proofs.InPlaceLaws.{bytes_put, len_put}
use Rattle.mr_runs.proofs.run.Run+Vec+u8.put.Goals as goal

pub returns-clause-bytes_are : goal.returns-clause-bytes_are
returns-clause-bytes_are c =
    let at = c.args.at in
    let bytes = c.args.bytes.now in
    let numbers = c.in-Bytes.numbers.items in
    let provenance = c.in-Bytes.field-1 in
    let piece : InitPiece numbers provenance ≡ c.args.self.now = sym (ap (piece_of_content (λ v. v.items)) c.in-Bytes.is) ∙ c.self.view_is in
    let P : SeenPiece → Type 0 = λ p. IsInPlace p at bytes in
    let inside : IsInPlace (InitPiece numbers provenance) at bytes = subst P (sym piece) c.requires in
    let new : c.put_numbers.new.numbers ≡ with_range_replaced numbers at (map number_of bytes) =
    c.put_numbers.ensures ∙ ap (λ (ns : List ℕ). with_range_replaced ns at (map number_of bytes)) c.as_mut_slice.ensures.value in
    let len : length c.put_numbers.new.numbers ≡ c.in-Bytes.numbers.len = omega (arith, ap length new, len_put numbers provenance at bytes inside, c.in-Bytes.numbers.ok.0) in
    ap (λ (ns : List ℕ). bytes_of_piece (InitPiece ns provenance)) (with_items_is c.in-Bytes.numbers c.put_numbers.new.numbers len ∙ new)
    ∙ bytes_put numbers provenance at bytes inside
    ∙ ap (λ (p : SeenPiece). with_range_replaced (bytes_of_piece p) at bytes) piece
