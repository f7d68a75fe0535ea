use Rattle.mr_runs.proofs.Common.{◌≡◌, ◌∙◌, ℕ, List, length, sym, ap, subst, arith, with_items_is, piece_of_content, with_numbers_at, TakesNumbers, SeenPiece, InitPiece, with_range_replaced}
use Rattle.mr_runs.proofs.RangeLaws.{length-with_range_replaced}
use Rattle.mr_runs.proofs.run.Run+Vec+u8.put_numbers.Goals as goal

pub returns : goal.returns
returns c =
    let at = c.args.at in
    let numbers = c.args.numbers.now in
    let own = c.in-Bytes.own.items in
    let its = c.in-Bytes.field-1 in
    let piece : InitPiece own its ≡ c.args.self.now = sym (ap (piece_of_content (λ v. v.items)) c.in-Bytes.is) ∙ c.self.view_is in
    let P : SeenPiece → Type 0 = λ p. TakesNumbers p at (length numbers) c.requires.0 in
    let inside : TakesNumbers (InitPiece own its) at (length numbers) c.requires.0 = subst P (sym piece) c.requires.1 in
    let new : c.replace_numbers.new.numbers ≡ with_range_replaced own at numbers =
    c.replace_numbers.ensures ∙ ap (λ (ns : List ℕ). with_range_replaced ns at numbers) c.as_mut_slice.ensures.value in
    let len : length c.replace_numbers.new.numbers ≡ c.in-Bytes.own.len =
    omega (arith, ap length new, length-with_range_replaced own at numbers inside.0, c.in-Bytes.own.ok.0) in
    ap (λ (ns : List ℕ). InitPiece ns its) (with_items_is c.in-Bytes.own c.replace_numbers.new.numbers len ∙ new)
    ∙ ap (λ (p : SeenPiece). with_numbers_at p at numbers) piece
