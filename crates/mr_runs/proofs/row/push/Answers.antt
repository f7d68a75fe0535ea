use Rattle.mr_runs.proofs.Common.{◌≡◌, ◌∙◌, ℕ, List, [], ◌∷◌, ◌++◌, Some, sym, ap, inr, arith, values_of, both_ways, same_Some, on_ok_weaker, last_mark, SeenPiece, mark_of, total_len, seen_piece}
use Rattle.mr_runs.proofs.PlacedLaws.{total_len-append}
use Rattle.mr_runs.proofs.RowLaws.{last_of_push}
use Rattle.mr_runs.proofs.row.push.Goals as goal

pub with-requires : goal.with-requires
with-requires c =
    omega (arith, c.requires.room, c.requires.fits, ap total_len c.in-Some.ensures.items, total_len-append c.pop.new.self.items ((c.in-Some.begin, c.in-Some.run') ∷ []))

pub returns : goal.returns
returns c =
    let p = seen_piece c.args.piece in
    let old = c.args.row.now.items in
    let run = c.in-Some.run' in
    let last : last_mark (values_of old) ≡ Some (mark_of run) =
    ap (λ (es : List (ℕ × SeenPiece)). last_mark (values_of es)) c.in-Some.ensures.items ∙ last_of_push c.pop.new.self.items (c.in-Some.begin, run) in
    on_ok_weaker c.add-2.result
    (λ is. inr (record {
      apart = λ same. both_ways c.is_same.result c.if-is_same.false (c.is_same.ensures.1 (c.mark.ensures ∙ same_Some (mark_of run) (mark_of p) (sym last ∙ same) ∙ sym c.mark-2.ensures));
      new_is = is ∙ ap (λ (es : List (ℕ × SeenPiece)). es ++ (c.args.at, p) ∷ []) (c.in_ok-push-2.ensures.items ∙ sym c.in-Some.ensures.items);
    }))
    c.add-2.ensures
