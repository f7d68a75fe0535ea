use Rattle.mr_clocks.proofs.Common.{◌≡◌, ◌+◌, ◌<◌, length, sym, ◌∙◌, ap, subst, arith, get_or_read, DoTheSame, memo_at, no_memo}
use Rattle.mr_clocks.proofs.MemoLaws.{memo_alike, memo_exact}
use Rattle.mr_clocks.proofs.memos.look_up.Goals as goal

pub returns-in_err-fill-clause-memos : goal.returns-in_err-fill-clause-memos
returns-in_err-fill-clause-memos c = c.in_err-fill.ensures.memos c.args.rows.now.items c.requires.memos

pub returns-then-serves-clause-memos : goal.returns-then-serves-clause-memos
returns-then-serves-clause-memos c = c.in_ok-fill.ensures.memos c.args.rows.now.items c.requires.memos

pub returns-then-serves-clause-memo : goal.returns-then-serves-clause-memo
returns-then-serves-clause-memo c =
    let rows = c.args.rows.now.items in
    let memos = c.fill.new.memos.items in
    let slot = c.slot_of-slot.result in
    let inside : slot < length memos = omega (arith, c.slot_of-slot.ensures, c.in_ok-fill.ensures.all, c.fill.new.memos.ok.0) in
    let is : c.index-kept.result.now ≡ memo_at memos slot = get_or_read memos slot c.index-kept.result.now inside c.index-kept.ensures no_memo in
    let stamp : (memo_at memos slot).1 ≡ length rows + 1 = ap (λ m. m.1) (sym is) ∙ c.serves.ensures.stamp c.if-serves.true ∙ omega (arith, c.len.ensures, c.args.rows.now.ok.0) in
    memo_alike (memo_at memos slot).0 c.args.step.now rows (memo_at memos slot)
    (subst (λ m. DoTheSame m.0 c.args.step.now) is (c.serves.ensures.step c.if-serves.true))
    (memo_exact rows (memo_at memos slot) stamp (c.in_ok-fill.ensures.memos rows c.requires.memos slot inside))

pub look_further-requires-clause-memos : goal.look_further-requires-clause-memos
look_further-requires-clause-memos c = c.in_ok-fill.ensures.memos c.args.rows.now.items c.requires.memos
