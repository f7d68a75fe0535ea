use Rattle.mr_rust_order.proofs.Common.{List, subst, sym, ◌∙◌, on_ok_weaker, Memo, AreMet}
use Rattle.std.proofs.Common.{slice_index_or}
use Rattle.mr_rust_order.proofs.LoadLaws.{access_none, access_read}
use Rattle.mr_rust_order.proofs.loads.read_access.Goals as goal

pub returns-then-not-is_load-clause-joined : goal.returns-then-not-is_load-clause-joined
returns-then-not-is_load-clause-joined c = access_none c.args.rows.now c.args.access c.args.clock.now (sym c.is_load.ensures ∙ c.if-not-is_load.true)

pub read_bytes-requires-clause-found : goal.read_bytes-requires-clause-found
read_bytes-requires-clause-found c =
    let memo = c.memo_at-memo.result.now in
    subst (AreMet c.args.rows.now c.args.access) (sym c.as_slice-2.ensures.value)
    (subst (λ (m : Memo). AreMet c.args.rows.now c.args.access m.found.items) (sym (c.memo_at-memo.ensures memo))
    (subst (λ (l : List Memo). AreMet c.args.rows.now c.args.access (slice_index_or l c.in_ok-slot.slot memo).found.items) (sym c.as_slice.ensures.value) (c.in_ok-slot.ensures.met memo)))

pub returns-clause-joined : goal.returns-clause-joined
returns-clause-joined c = on_ok_weaker c.read_bytes.result (λ j. access_read c.args.rows.now c.args.access c.args.clock.now c.read_bytes.new.clock (sym c.is_load.ensures ∙ c.if-not-is_load.false) j) c.read_bytes.ensures
