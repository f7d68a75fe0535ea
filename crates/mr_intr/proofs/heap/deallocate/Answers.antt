use Rattle.mr_intr.proofs.Common.{List, None, ap, refl, slice_get, Heap, Free, Val, begun}
use Rattle.mr_ast.specs.declared.program.Intrinsic.TheVariants as intrinsic
use Rattle.mr_intr.proofs.Arguments.{deallocate_takes}
use Rattle.mr_intr.proofs.HeapLaws.{deallocated}
use Rattle.mr_intr.proofs.OperatedLaws.{done_as, fault_as, memory_fault, memory_went}
use Rattle.mr_intr.proofs.heap.deallocate.Goals as goal

pub pointer_at-p-requires : goal.pointer_at-p-requires
pointer_at-p-requires c =
    let takes = deallocate_takes c.args.args.now c.requires.types c.requires.place c.requires.fits in
    record { pointer = takes.pointer; is = ap (λ (l : List Val). slice_get l 0) takes.is }

pub size_at-size-requires : goal.size_at-size-requires
size_at-size-requires c =
    let takes = deallocate_takes c.args.args.now c.requires.types c.requires.place c.requires.fits in
    record { number = takes.size; is = ap (λ (l : List Val). slice_get l 1) takes.is; small = takes.size_small }

pub size_at-align-requires : goal.size_at-align-requires
size_at-align-requires c =
    let takes = deallocate_takes c.args.args.now c.requires.types c.requires.place c.requires.fits in
    record { number = takes.align; is = ap (λ (l : List Val). slice_get l 2) takes.is; small = takes.align_small }

pub returns-in-Ok-clause-done : goal.returns-in-Ok-clause-done
returns-in-Ok-clause-done c =
    λ types place picks x out.
    let run = deallocated c.args.args.now types place picks (begun c.args.s.now x) c.pointer_at-p.result c.size_at-size.result c.size_at-align.result c.requires c.pointer_at-p.ensures c.size_at-size.ensures c.size_at-align.ensures in
    let q = Free c.pointer_at-p.result Heap c.size_at-size.result c.size_at-align.result in
    let done = memory_went intrinsic.Deallocate q (λ u. None) c.args.s.now x c.free.new.self out tt c.in-Ok.ensures (refl, refl) in
    done_as intrinsic.Deallocate c.free.new.self x out out _ _ run c.quiet.result _ c.quiet.ensures done

pub returns-in-Err-clause-done : goal.returns-in-Err-clause-done
returns-in-Err-clause-done c =
    λ types place picks x out.
    let run = deallocated c.args.args.now types place picks (begun c.args.s.now x) c.pointer_at-p.result c.size_at-size.result c.size_at-align.result c.requires c.pointer_at-p.ensures c.size_at-size.ensures c.size_at-align.ensures in
    let q = Free c.pointer_at-p.result Heap c.size_at-size.result c.size_at-align.result in
    fault_as intrinsic.Deallocate c.free.new.self x out out _ _ run c.in-Err.fault (memory_fault intrinsic.Deallocate q (λ u. None) c.args.s.now x c.free.new.self out c.in-Err.fault c.in-Err.ensures)
