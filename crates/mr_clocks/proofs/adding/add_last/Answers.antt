use Rattle.mr_clocks.proofs.Common.{◌≡◌, List, ℕ, sym, ◌∙◌, ap, subst, get_or_read, step_at, memo_at, no_memo, AreAllAsked, ArePlaces}
use Rattle.mr_clocks.proofs.MarkLaws.{marked_same}
use Rattle.mr_clocks.proofs.MemoLaws.{memos_same}
use Rattle.mr_clocks.proofs.Noting.{rows_grown}
use Rattle.mr_clocks.proofs.adding.add_last.Goals as goal

pub add_step-requires-clause-rows : goal.add_step-requires-clause-rows
add_step-requires-clause-rows c =
    rows_grown c.args.run.now c.args.j c.args.rows.now.items c.memo_of.new.rows.items c.args.links.now.items c.requires.rows c.in_ok-x.ensures.grown

pub add_step-requires-clause-found : goal.add_step-requires-clause-found
add_step-requires-clause-found c =
    let memos = c.memo_of.new.memos.items in
    let is : c.index-memo.result.now ≡ memo_at memos c.in_ok-x.x = get_or_read memos c.in_ok-x.x c.index-memo.result.now c.in_ok-x.ensures.inside c.index-memo.ensures no_memo in
    subst (λ (l : List ℕ). AreAllAsked (step_at c.args.run.now c.args.j) c.memo_of.new.rows.items l) (sym (c.asked.ensures ∙ ap (λ m. m.2) is)) c.in_ok-x.ensures.memo.asked

pub add_step-requires-clause-places : goal.add_step-requires-clause-places
add_step-requires-clause-places c =
    let memos = c.memo_of.new.memos.items in
    let is : c.index-memo.result.now ≡ memo_at memos c.in_ok-x.x = get_or_read memos c.in_ok-x.x c.index-memo.result.now c.in_ok-x.ensures.inside c.index-memo.ensures no_memo in
    subst (λ (l : List ℕ). ArePlaces (step_at c.args.run.now c.args.j) c.memo_of.new.rows.items l) (sym (c.noted.ensures ∙ ap (λ m. m.3) is)) c.in_ok-x.ensures.memo.noted

pub returns-clause-marked : goal.returns-clause-marked
returns-clause-marked c =
    marked_same c.memo_of.new.index.shelves.items c.memo_of.new.index.marks.keys c.memo_of.new.rows.items c.add_step.new.rows.items c.add_step.ensures.keys c.in_ok-x.ensures.marked

pub returns-clause-memos : goal.returns-clause-memos
returns-clause-memos c = memos_same c.memo_of.new.rows.items c.add_step.new.rows.items c.memo_of.new.memos.items c.add_step.ensures.keys c.in_ok-x.ensures.memos
