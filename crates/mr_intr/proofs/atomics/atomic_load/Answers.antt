use Rattle.mr_intr.proofs.Common.{List, ap, refl, option_copied, slice_get, Val, seen, begun}
use Rattle.mr_ast.specs.declared.program.Intrinsic.TheVariants as intrinsic
use Rattle.mr_intr.proofs.AtomicRuns.{does_handed, load_fault, load_read, load_went, place_value}
use Rattle.mr_intr.proofs.OperatedLaws.{done_as, fault_as}
use Rattle.mr_intr.proofs.Arguments.{atomic_load_takes}
use Rattle.mr_intr.proofs.atomics.atomic_load.Goals as goal

pub pointer_at-requires : goal.pointer_at-requires
pointer_at-requires c =
    let takes = atomic_load_takes c.args.args.now c.requires.0 _ c.requires.1 in
    record { pointer = takes.pointer; is = ap (λ (l : List Val). slice_get l 0) takes.is }

pub integer_of-requires : goal.integer_of-requires
integer_of-requires c =
    let takes = atomic_load_takes c.args.args.now c.requires.0 _ c.requires.1 in
    record { int = takes.int; is = takes.gives }

pub returns-clause-done : goal.returns-clause-done
returns-clause-done c =
    λ types picks x out.
    let s = c.args.s.now in
    let p = c.pointer_at.result in
    let int = c.integer_of.result in
    let new = record s { notes = c.load_number.new.notes } in
    let run = load_read c.args.args.now types (option_copied c.args.place) picks (begun s x) p c.pointer_at.ensures int c.requires.0 c.requires.1 c.integer_of.ensures in
    done_as intrinsic.AtomicLoad new x out out _ _ run c.quiet.result _ c.quiet.ensures (load_went types picks p int s x c.in_ok-n.n new out refl c.in_ok-n.ensures.told)

pub returns-clause-value : goal.returns-clause-value
returns-clause-value c = place_value (option_copied c.args.place) c.integer_of.result c.in_ok-n.n c.quiet.result c.integer_of.ensures c.quiet.ensures c.in_ok-n.ensures.small

pub returns-in_err-n-clause-done : goal.returns-in_err-n-clause-done
returns-in_err-n-clause-done c =
    λ types picks x out.
    let s = c.args.s.now in
    let p = c.pointer_at.result in
    let int = c.integer_of.result in
    let new = record s { notes = c.load_number.new.notes } in
    let run = load_read c.args.args.now types (option_copied c.args.place) picks (begun s x) p c.pointer_at.ensures int c.requires.0 c.requires.1 c.integer_of.ensures in
    does_handed intrinsic.AtomicLoad c.from_residual.result c.in_err-n.field-0.0 _ new x out c.from_residual.ensures.1
    (fault_as intrinsic.AtomicLoad new x out out _ _ run c.in_err-n.field-0.0 (load_fault types picks p int s x c.in_err-n.field-0.0 new out (seen c.load_number.new.notes) c.in_err-n.ensures.told))
