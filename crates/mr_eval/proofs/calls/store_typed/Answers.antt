use Rattle.mr_eval.proofs.Common.{◌++◌, ◌≡◌, ap, subst, sym, ◌∙◌, Memory, Outcome, encoding_of, Bytes, seen, Leaves, Seen}
use Rattle.std.proofs.Common.{take}
use Rattle.mr_layout.specs.declared.cache.Layout.{Layout}
use Rattle.mr_runs.specs.Numbers.{with_provenance}
use Rattle.mr_eval.proofs.CallLaws.{store_run}
use Rattle.mr_eval.proofs.calls.store_typed.Goals as goal

pub returns-then-is_scalar-clause-given : goal.returns-then-is_scalar-clause-given
returns-then-is_scalar-clause-given c =
    let s = c.encode_scalar.result in
    subst (λ (o : Outcome Memory Seen). Leaves c.store_scalar.result o c.store_scalar.new.m (seen c.store_scalar.new.notes) c.store_scalar.new.notes.refused)
    (sym (store_run c.args.m.now c.args.t.now c.args.p c.args.v.now (seen c.args.n.now) (with_provenance s.provenance (take s.count s.all)) c.layout-layout.result.align
    c.encode_scalar.ensures.bytes (ap (λ (l : Layout). l.align) c.layout-layout.ensures))) c.store_scalar.ensures.given

pub returns-clause-given : goal.returns-clause-given
returns-clause-given c =
    let new = encoding_of c.args.t.now c.args.v.now in
    let bytes : c.as_slice.result.now ≡ new = c.as_slice.ensures.value ∙ c.in_ok-encode.ensures.ok ∙ ap (λ (xs : Bytes). xs ++ new) c.new-bytes.ensures.items in
    subst (λ (o : Outcome Memory Seen). Leaves c.store_bytes.result o c.store_bytes.new.m (seen c.store_bytes.new.notes) c.store_bytes.new.notes.refused)
    (sym (store_run c.args.m.now c.args.t.now c.args.p c.args.v.now (seen c.args.n.now) c.as_slice.result.now c.layout-layout.result.align bytes
    (ap (λ (l : Layout). l.align) c.layout-layout.ensures))) c.store_bytes.ensures.given
