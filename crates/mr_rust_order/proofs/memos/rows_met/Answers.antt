use Rattle.mr_rust_order.proofs.Common.{ℕ, ◌≤◌, length, set, subst, sym, refl, arith, get_or_read, get_or-set_same, Memo, AreMet, IsMemo}
use Rattle.mr_rust_order.proofs.MemoLaws.{memo_set}
use Rattle.mr_rust_order.proofs.memos.rows_met.Goals as goal

pub refresh-requires-clause-memo : goal.refresh-requires-clause-memo
refresh-requires-clause-memo c =
    let room = c.requires.memos.room in
    let low = c.spread-slot.ensures in
    subst (IsMemo c.args.rows.now) (sym c.index_mut-memo.ensures.value) (c.requires.memos.each c.spread-slot.result c.index_mut-memo.result.now (omega (arith, room, low)))

pub returns-clause-memos : goal.returns-clause-memos
returns-clause-memos c =
    let room = c.requires.memos.room in
    let low = c.spread-slot.ensures in
    memo_set c.args.rows.now c.args.memos.now.items c.spread-slot.result c.refresh.new.memo (omega (arith, room, low)) c.requires.memos c.in_ok-refresh.ensures.memo

pub returns-clause-met : goal.returns-clause-met
returns-clause-met c = λ d.
    let room = c.requires.memos.room in
    let low = c.spread-slot.ensures in
    subst (λ (m : Memo). AreMet c.args.rows.now c.args.access m.found.items) (sym (get_or-set_same c.args.memos.now.items c.spread-slot.result c.refresh.new.memo d (omega (arith, room, low)))) c.in_ok-refresh.ensures.met
