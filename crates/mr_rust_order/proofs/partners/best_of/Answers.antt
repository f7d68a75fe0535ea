use Rattle.mr_rust_order.proofs.Common.{List, ℕ, false, get_or, ◌∙◌, sym, subst, arith, take_all, Access, Memo, AreMet, IsPartnerBy, is_partner, IsTop, Passes}
use Rattle.mr_rust_order.proofs.PartnerLaws.{partners_more, partners_none}
use Rattle.mr_rust_order.proofs.partners.best_of.Goals as goal

pub loop-y-init : goal.loop-y-init
loop-y-init c = record { memos = c.requires.memos; top = partners_none c.args.rows.now c.accesses-accesses.result.now c.args.step.now.thread c.args.clock.now }

pub best_by-requires-clause-found : goal.best_by-requires-clause-found
best_by-requires-clause-found c =
    let none : Access = record { store = false; atomic = false; addr = 0; len = 0 } in
    let rows = c.args.rows.now in
    let access = get_or c.accesses-accesses.result.now c.loop-y.y none in
    let memo = c.memo_at-memo.result.now in
    subst (AreMet rows access) (sym c.as_slice-in-loop-y.ensures.value)
    (subst (λ (m : Memo). AreMet rows access m.found.items) (sym (c.memo_at-memo.ensures memo))
    (subst (λ (l : List Memo). AreMet rows access (get_or l c.in_ok-slot.slot memo).found.items) (sym c.as_slice.ensures.value) (c.in_ok-slot.ensures.met memo)))

pub loop-y-preserved : goal.loop-y-preserved
loop-y-preserved c =
    let none : Access = record { store = false; atomic = false; addr = 0; len = 0 } in
    let rows = c.args.rows.now in
    let accesses = c.accesses-accesses.result.now in
    let here = subst (λ (t : ℕ). IsTop rows (Passes rows (is_partner t (get_or accesses c.loop-y.y none) c.args.clock.now)) c.best_by.result) c.thread.ensures c.best_by.ensures in
    record {
      memos = c.in_ok-slot.ensures.memos;
      top = partners_more rows accesses c.args.step.now.thread c.args.clock.now c.loop-y.y none c.loop-y.best c.best_by.result c.max-best.result c.loop-y-test.true c.max-best.ensures c.loop-y.invariant.top here;
    }

pub returns-clause-memos : goal.returns-clause-memos
returns-clause-memos c = c.loop-y.invariant.memos

pub returns-clause-top : goal.returns-clause-top
returns-clause-top c =
    subst (λ (l : List Access). IsTop c.args.rows.now (IsPartnerBy c.args.rows.now l c.args.step.now.thread c.args.clock.now) c.loop-y.best)
    (take_all c.loop-y.y c.accesses-accesses.result.now (omega arith) ∙ c.accesses-accesses.ensures) c.loop-y.invariant.top
