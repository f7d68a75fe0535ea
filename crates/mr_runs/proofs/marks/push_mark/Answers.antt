use Rattle.mr_runs.proofs.Common.{◌≡◌, ◌∙◌, ℕ, List, [], ◌∷◌, ◌++◌, Some, sym, ap, inl, inr, arith, values_of, both_ways, same_Some, on_ok_weaker, marked_piece, last_mark, together, SeenPiece, mark_of, piece_len, total_len}
use Rattle.mr_runs.proofs.PlacedLaws.{total_len-append}
use Rattle.mr_runs.proofs.RowLaws.{last_of_push}
use Rattle.mr_runs.proofs.StampLaws.{mark_of-marked, piece_len-marked, together_marked}
use Rattle.mr_runs.proofs.marks.push_mark.Goals as goal

pub overflow_add-before : goal.overflow_add-before
overflow_add-before c =
    let room = c.requires.room in
    let fits = c.requires.fits in
    let whole : piece_len c.in-Some.run' ≡ c.told-before.result.0 = ap piece_len c.told-before.ensures ∙ piece_len-marked c.told-before.result.0 c.told-before.result.1 in
    omega (arith, room, fits, whole, ap total_len c.in-Some.ensures.items, total_len-append c.pop.new.self.items ((c.in-Some.begin, c.in-Some.run') ∷ []))

pub returns-then-is_same : goal.returns-then-is_same
returns-then-is_same c =
    let run = c.in-Some.run' in
    let before = c.told-before.result.0 in
    let own = c.told-before.result.1 in
    let same : own ≡ c.args.mark = c.is_same.ensures.0 c.if-is_same.true in
    let is : run ≡ marked_piece before c.args.mark = c.told-before.ensures ∙ ap (marked_piece before) same in
    inl (record {
      front = c.pop.new.self.items;
      begin = c.in-Some.begin;
      last = run;
      old_is = c.in-Some.ensures.items;
      same = ap mark_of is ∙ mark_of-marked before c.args.mark ∙ sym (mark_of-marked c.args.count c.args.mark);
      new_is =
          c.in_ok-push.ensures.items
          ∙ ap (λ (q : SeenPiece). c.pop.new.self.items ++ (c.in-Some.begin, q) ∷ [])
          (c.marked.ensures ∙ sym (together_marked before c.args.count c.args.mark) ∙ ap (λ (q : SeenPiece). together q (marked_piece c.args.count c.args.mark)) (sym is));
    })

pub returns : goal.returns
returns c =
    let p = marked_piece c.args.count c.args.mark in
    let old = c.args.row.now.items in
    let run = c.in-Some.run' in
    let last : last_mark (values_of old) ≡ Some (mark_of run) =
    ap (λ (es : List (ℕ × SeenPiece)). last_mark (values_of es)) c.in-Some.ensures.items ∙ last_of_push c.pop.new.self.items (c.in-Some.begin, run) in
    let own : mark_of run ≡ c.told-before.result.1 = ap mark_of c.told-before.ensures ∙ mark_of-marked c.told-before.result.0 c.told-before.result.1 in
    on_ok_weaker c.add_mark-2.result
    (λ is. inr (record {
      apart = λ same. both_ways c.is_same.result c.if-is_same.false (c.is_same.ensures.1 (sym own ∙ same_Some (mark_of run) (mark_of p) (sym last ∙ same) ∙ mark_of-marked c.args.count c.args.mark));
      new_is = is ∙ ap (λ (es : List (ℕ × SeenPiece)). es ++ (c.args.at, p) ∷ []) (c.in_ok-push-2.ensures.items ∙ sym c.in-Some.ensures.items);
    }))
    c.add_mark-2.ensures
