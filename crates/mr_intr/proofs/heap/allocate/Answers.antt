use Rattle.mr_intr.proofs.Common.{List, Some, ap, sym, refl, ◌∙◌, slice_get, Heap, Allocate, Val, has_raw, begun, Effect, Refused}
use Rattle.mr_eval.proofs.RefusedLaws.{stop_plainly}
use Rattle.mr_ast.specs.declared.program.Intrinsic.TheVariants as intrinsic
use Rattle.mr_value.specs.declared.val.Val.TheVariants as val
use Rattle.mr_intr.proofs.Arguments.{allocate_takes}
use Rattle.mr_intr.proofs.HeapLaws.{allocated, allocation_allowed, allocation_asked, allocation_picks, allocation_refused, first}
use Rattle.mr_intr.proofs.OperatedLaws.{done_as, memory_went}
use Rattle.mr_intr.proofs.OwnReasons.{allocation_own}
use Rattle.mr_intr.proofs.heap.allocate.Goals as goal

pub size_at-size-requires : goal.size_at-size-requires
size_at-size-requires c =
    let takes = allocate_takes c.args.args.now c.requires.fits.types c.requires.fits.place c.requires.fits.fits in
    record { number = takes.size; is = ap (λ (l : List Val). slice_get l 0) takes.is; small = takes.size_small }

pub size_at-align-requires : goal.size_at-align-requires
size_at-align-requires c =
    let takes = allocate_takes c.args.args.now c.requires.fits.types c.requires.fits.place c.requires.fits.fits in
    record { number = takes.align; is = ap (λ (l : List Val). slice_get l 1) takes.is; small = takes.align_small }

pub allocate-requires-clause-align : goal.allocate-requires-clause-align
allocate-requires-clause-align c = (allocation_allowed c.size_at-size.result c.size_at-align.result (sym c.allocation_fault.ensures ∙ c.in-None.is)).power

pub returns-in-Some-clause-done : goal.returns-in-Some-clause-done
returns-in-Some-clause-done c =
    λ types place x out. (
      allocated c.args.args.now types place c.args.picks.now (begun c.args.s.now x) c.size_at-size.result c.size_at-align.result c.requires.fits c.size_at-size.ensures c.size_at-align.ensures
          ∙ allocation_refused c.size_at-size.result c.size_at-align.result c.args.picks.now (begun c.args.s.now x) c.in-Some.reason (sym c.allocation_fault.ensures ∙ c.in-Some.is)
          ∙ ap Refused (stop_plainly c.args.s.now.notes.refused c.in-Some.reason (allocation_own c.size_at-size.result c.size_at-align.result c.in-Some.reason (sym c.allocation_fault.ensures ∙ c.in-Some.is))),
      refl,
    )

pub returns-in_ok-p-in-None-clause-done : goal.returns-in_ok-p-in-None-clause-done
returns-in_ok-p-in-None-clause-done c =
    λ types place x out.
    let size = c.size_at-size.result in
    let align = c.size_at-align.result in
    let picks = c.args.picks.now in
    let allowed = allocation_allowed size align (sym c.allocation_fault.ensures ∙ c.in-None.is) in
    let law = c.requires.lawful in
    let picked = allocation_picks c.args.args.now size align c.requires.fits c.size_at-size.ensures c.size_at-align.ensures law.0 law.1 picks c.args.s.now law.2 law.3 allowed in
    let run =
    allocated c.args.args.now types place picks (begun c.args.s.now x) size align c.requires.fits c.size_at-size.ensures c.size_at-align.ensures
    ∙ allocation_asked size align picks (begun c.args.s.now x) allowed picked.is in
    let done = memory_went intrinsic.Allocate (Allocate Heap size align (first picks)) (λ p. Some (val.Ptr p)) c.args.s.now x c.allocate.new.self out c.in_ok-p-in-None.p c.in_ok-p-in-None.ensures (refl, refl) in
    done_as intrinsic.Allocate c.allocate.new.self x out out _ _ run c.quiet.result _ c.quiet.ensures done

pub returns-in_ok-p-in-None-clause-value : goal.returns-in_ok-p-in-None-clause-value
returns-in_ok-p-in-None-clause-value c = (val.Ptr c.in_ok-p-in-None.p, ap (λ (e : Effect). e.value) c.quiet.ensures, has_raw c.in_ok-p-in-None.p)
