use Rattle.mr_intr.proofs.Common.{◌≡◌, ℕ, List, None, Err, true, length, get_or, arith, ap, refl, subst, sym, take, ◌∙◌, slice_get, Val, Ty, AbstractByte, align_of, Went, encoding_of, has_shape, seen, Write, world_of, begun}
use Rattle.std.specs.Prelude.{IsTrue}
use Rattle.mr_layout.specs.TypeOk.{TypeOk}
use Rattle.mr_runs.specs.Numbers.{with_provenance}
use Rattle.mr_value.specs.Decode.{is_scalar, is_scalar_layer}
use Rattle.mr_eval.specs.Environment.{Leaves}
use Rattle.mr_eval.specs.Stores.{storing}
use Rattle.mr_layout.proofs.BrokenLaws.{int_ok}
use Rattle.mr_ast.specs.declared.program.Intrinsic.TheVariants as intrinsic
use Rattle.mr_ast.specs.declared.types.Ty.TheVariants as ty
use Rattle.mr_value.specs.declared.val.Val.TheVariants as val
use Rattle.mr_intr.proofs.Arguments.{atomic_store_takes}
use Rattle.mr_intr.proofs.AtomicRuns.{does_handed, store_read, write_fault, write_went}
use Rattle.mr_intr.proofs.OperatedLaws.{done_as, fault_as, memory_fault, memory_went}
use Rattle.mr_intr.proofs.atomics.atomic_store.Goals as goal

pub pointer_at-p-requires : goal.pointer_at-p-requires
pointer_at-p-requires c =
    let takes = atomic_store_takes c.args.args.now c.args.types.now c.requires.0 c.requires.1 in
    record { pointer = takes.pointer; is = ap (λ (l : List Val). slice_get l 0) takes.is }

pub bounds-types-1 : goal.bounds-types-1
bounds-types-1 c =
    let takes = atomic_store_takes c.args.args.now c.args.types.now c.requires.0 c.requires.1 in
    omega (arith, ap (λ (l : List Ty). length l) takes.typed)

pub encode_scalar-bytes-requires-clause-ok : goal.encode_scalar-bytes-requires-clause-ok
encode_scalar-bytes-requires-clause-ok c =
    let takes = atomic_store_takes c.args.args.now c.args.types.now c.requires.0 c.requires.1 in
    subst TypeOk (sym (c.ty-t.ensures ∙ c.index-types-1.is ∙ ap (λ (l : List Ty). get_or l 1 c.index-types-1.result) takes.typed)) (int_ok takes.int)

pub encode_scalar-bytes-requires-clause-scalar : goal.encode_scalar-bytes-requires-clause-scalar
encode_scalar-bytes-requires-clause-scalar c =
    let takes = atomic_store_takes c.args.args.now c.args.types.now c.requires.0 c.requires.1 in
    subst (λ (t : Ty). IsTrue (is_scalar t)) (sym (c.ty-t.ensures ∙ c.index-types-1.is ∙ ap (λ (l : List Ty). get_or l 1 c.index-types-1.result) takes.typed)) (ap is_scalar_layer (ty.outs-Int takes.int))

pub encode_scalar-bytes-requires-clause-shape : goal.encode_scalar-bytes-requires-clause-shape
encode_scalar-bytes-requires-clause-shape c =
    let takes = atomic_store_takes c.args.args.now c.args.types.now c.requires.0 c.requires.1 in
    let t = c.ty-t.ensures ∙ c.index-types-1.is ∙ ap (λ (l : List Ty). get_or l 1 c.index-types-1.result) takes.typed in
    let v = c.index-args-1.is ∙ ap (λ (l : List Val). get_or l 1 c.index-args-1.result) takes.is in
    (λ i. has_shape (t i) (v i)) ∙ takes.shape

pub returns-clause-done : goal.returns-clause-done
returns-clause-done c =
    λ place picks x out.
    let s = c.args.s.now in
    let p = c.pointer_at-p.result in
    let types = c.args.types.now in
    let new = record s { memory = c.store_scalar.new.m; notes = c.store_scalar.new.notes } in
    let takes = atomic_store_takes c.args.args.now types c.requires.0 c.requires.1 in
    let t : c.ty-t.result ≡ ty.Int takes.int = c.ty-t.ensures ∙ c.index-types-1.is ∙ ap (λ (l : List Ty). get_or l 1 c.index-types-1.result) takes.typed in
    let v : c.index-args-1.result ≡ val.Int takes.bits = c.index-args-1.is ∙ ap (λ (l : List Val). get_or l 1 c.index-args-1.result) takes.is in
    let written = encoding_of (ty.Int takes.int) (val.Int takes.bits) in
    let b = c.encode_scalar-bytes.result in
    let bytes : with_provenance b.provenance (take b.count b.all) ≡ written = c.encode_scalar-bytes.ensures.bytes ∙ (λ i. encoding_of (t i) (v i)) in
    let align : c.align.result ≡ align_of (ty.Int takes.int) = c.align.ensures ∙ ap align_of t in
    let stored : storing s.memory true p written (align_of (ty.Int takes.int)) (seen s.notes) ≡ Went c.store_scalar.new.m (seen c.store_scalar.new.notes) =
    (λ i. storing s.memory true p (sym bytes i) (sym align i) (seen s.notes)) ∙ c.in_ok-store_scalar.ensures.given in
    let run = store_read c.args.args.now types place picks (begun s x) p c.pointer_at-p.ensures takes in
    let q = Write true p written (align_of (ty.Int takes.int)) in
    let done = memory_went intrinsic.AtomicStore q (λ u. None) s x new out tt (write_went s c.store_scalar.new.m (seen c.store_scalar.new.notes) p written (align_of (ty.Int takes.int)) stored) (refl, refl) in
    done_as intrinsic.AtomicStore new x out out _ _ run c.quiet.result _ c.quiet.ensures done

pub returns-in_err-store_scalar-clause-done : goal.returns-in_err-store_scalar-clause-done
returns-in_err-store_scalar-clause-done c =
    λ place picks x out.
    let s = c.args.s.now in
    let p = c.pointer_at-p.result in
    let types = c.args.types.now in
    let f = c.in_err-store_scalar.field-0.0 in
    let new = record s { memory = c.store_scalar.new.m; notes = c.store_scalar.new.notes } in
    let takes = atomic_store_takes c.args.args.now types c.requires.0 c.requires.1 in
    let t : c.ty-t.result ≡ ty.Int takes.int = c.ty-t.ensures ∙ c.index-types-1.is ∙ ap (λ (l : List Ty). get_or l 1 c.index-types-1.result) takes.typed in
    let v : c.index-args-1.result ≡ val.Int takes.bits = c.index-args-1.is ∙ ap (λ (l : List Val). get_or l 1 c.index-args-1.result) takes.is in
    let written = encoding_of (ty.Int takes.int) (val.Int takes.bits) in
    let b = c.encode_scalar-bytes.result in
    let bytes : with_provenance b.provenance (take b.count b.all) ≡ written = c.encode_scalar-bytes.ensures.bytes ∙ (λ i. encoding_of (t i) (v i)) in
    let align : c.align.result ≡ align_of (ty.Int takes.int) = c.align.ensures ∙ ap align_of t in
    let P : List AbstractByte → ℕ → Type 0 = λ b a. Leaves (Err f) (storing s.memory true p b a (seen s.notes)) c.store_scalar.new.m (seen c.store_scalar.new.notes) c.store_scalar.new.notes.refused in
    let stored : P written (align_of (ty.Int takes.int)) = subst (P written) align (subst (λ b. P b c.align.result) bytes c.in_err-store_scalar.ensures.given) in
    let run = store_read c.args.args.now types place picks (begun s x) p c.pointer_at-p.ensures takes in
    let q = Write true p written (align_of (ty.Int takes.int)) in
    does_handed intrinsic.AtomicStore c.from_residual.result f _ new x out c.from_residual.ensures.1
    (fault_as intrinsic.AtomicStore new x out out _ _ run f
    (memory_fault intrinsic.AtomicStore q (λ u. None) s x new out f (write_fault s f c.store_scalar.new.m (seen c.store_scalar.new.notes) p written (align_of (ty.Int takes.int)) (world_of new) c.store_scalar.new.notes.refused stored)))
