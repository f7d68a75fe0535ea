use Rattle.mr_clocks.proofs.Common.{◌≡◌, ◌+◌, ◌<◌, length, sym, ◌∙◌, ap, subst, arith, get_or_read, DoTheSame, AreMemos, IsMemoOf, memo_at, no_memo}
use Rattle.mr_clocks.proofs.MemoLaws.{memo_alike, memo_exact, memo_here, memos_grown}
use Rattle.mr_clocks.proofs.memos.look_further.Goals as goal

pub returns-in_err-catch_up_at-clause-memos : goal.returns-in_err-catch_up_at-clause-memos
returns-in_err-catch_up_at-clause-memos c = subst (λ rows. AreMemos rows c.catch_up_at.new.memos.items) c.as_slice.ensures.value c.catch_up_at.ensures.memos

pub returns-then-serves-clause-memos : goal.returns-then-serves-clause-memos
returns-then-serves-clause-memos c = subst (λ rows. AreMemos rows c.catch_up_at.new.memos.items) c.as_slice.ensures.value c.catch_up_at.ensures.memos

pub returns-then-serves-clause-memo : goal.returns-then-serves-clause-memo
returns-then-serves-clause-memo c =
    let rows = c.args.rows.now.items in
    let memos = c.catch_up_at.new.memos.items in
    let slot = c.args.slot in
    let all : AreMemos rows memos = subst (λ l. AreMemos l memos) c.as_slice.ensures.value c.catch_up_at.ensures.memos in
    let inside : slot < length memos = omega (arith, c.requires.slot, c.requires.all, c.catch_up_at.ensures.all, c.catch_up_at.new.memos.ok.0) in
    let is : c.index-kept.result.now ≡ memo_at memos slot = get_or_read memos slot c.index-kept.result.now inside c.index-kept.ensures no_memo in
    let stamp : (memo_at memos slot).1 ≡ length rows + 1 = ap (λ m. m.1) (sym is) ∙ c.serves.ensures.stamp c.if-serves.true ∙ omega (arith, c.len.ensures, c.args.rows.now.ok.0) in
    memo_alike (memo_at memos slot).0 c.args.step.now rows (memo_at memos slot)
    (subst (λ m. DoTheSame m.0 c.args.step.now) is (c.serves.ensures.step c.if-serves.true))
    (memo_exact rows (memo_at memos slot) stamp (all slot inside))

pub returns-in_err-memo-clause-memos : goal.returns-in_err-memo-clause-memos
returns-in_err-memo-clause-memos c =
    memos_grown c.args.rows.now.items c.memo_for.new.rows.items c.catch_up_at.new.memos.items c.in_err-memo.ensures.grown
    (subst (λ l. AreMemos l c.catch_up_at.new.memos.items) c.as_slice.ensures.value c.catch_up_at.ensures.memos)

pub returns-clause-memos : goal.returns-clause-memos
returns-clause-memos c =
    let rows = c.memo_for.new.rows.items in
    c.keep_memo.ensures.memos rows
    (memos_grown c.args.rows.now.items rows c.catch_up_at.new.memos.items c.in_ok-memo.ensures.grown
    (subst (λ l. AreMemos l c.catch_up_at.new.memos.items) c.as_slice.ensures.value c.catch_up_at.ensures.memos))
    (memo_here rows c.args.step.now c.in_ok-memo.memo c.in_ok-memo.ensures.step c.in_ok-memo.ensures.memo)

pub returns-clause-memo : goal.returns-clause-memo
returns-clause-memo c = subst (IsMemoOf c.memo_for.new.rows.items c.args.step.now) (sym c.keep_memo.ensures.here) c.in_ok-memo.ensures.memo
