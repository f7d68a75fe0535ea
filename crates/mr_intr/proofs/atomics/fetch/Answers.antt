use Rattle.mr_intr.proofs.Common.{List, Some, ap, option_copied, slice_get, Val, int_size, Modify, begun, fetched}
use Rattle.mr_value.specs.declared.val.Val.TheVariants as val
use Rattle.mr_intr.proofs.AtomicRuns.{does_handed, by_small, fetch_prints, fetch_read, place_value}
use Rattle.mr_intr.proofs.OperatedLaws.{done_as, fault_as, memory_fault, memory_went}
use Rattle.mr_intr.proofs.Arguments.{fetch_takes, wide_int}
use Rattle.mr_intr.proofs.atomics.fetch.Goals as goal

pub pointer_at-p-requires : goal.pointer_at-p-requires
pointer_at-p-requires c =
    let takes = fetch_takes c.args.op c.args.args.now c.requires.fits.0 _ c.requires.op c.requires.fits.1 in
    record { pointer = takes.pointer; is = ap (λ (l : List Val). slice_get l 0) takes.is }

pub bits_at-by-requires : goal.bits_at-by-requires
bits_at-by-requires c =
    let takes = fetch_takes c.args.op c.args.args.now c.requires.fits.0 _ c.requires.op c.requires.fits.1 in
    record { number = takes.by; is = ap (λ (l : List Val). slice_get l 1) takes.is; small = wide_int takes.int takes.by takes.small }

pub integer_of-requires : goal.integer_of-requires
integer_of-requires c =
    let takes = fetch_takes c.args.op c.args.args.now c.requires.fits.0 _ c.requires.op c.requires.fits.1 in
    record { int = takes.int; is = takes.gives }

pub replace-requires-clause-by : goal.replace-requires-clause-by
replace-requires-clause-by c =
    by_small c.args.args.now c.requires.fits.0 (option_copied c.args.place) c.integer_of.result c.bits_at-by.result c.integer_of.ensures c.args.op c.requires.op c.requires.fits.1 c.bits_at-by.ensures

pub returns-clause-done : goal.returns-clause-done
returns-clause-done c =
    λ types picks x out.
    let s = c.args.s.now in
    let p = c.pointer_at-p.result in
    let int = c.integer_of.result in
    let new = c.replace.new.s in
    let run = fetch_read c.args.args.now types (option_copied c.args.place) picks (begun s x) p c.pointer_at-p.ensures int c.requires.fits.0 c.integer_of.ensures c.args.op c.bits_at-by.result c.requires.op c.requires.fits.1 c.bits_at-by.ensures in
    let done = memory_went c.args.op (Modify p (int_size int) (fetched c.args.op int c.bits_at-by.result)) (λ n. Some (val.Int n)) s x new out c.in_ok-found.found c.in_ok-found.ensures.told (fetch_prints c.args.op out c.requires.op) in
    done_as c.args.op new x out out _ _ run c.quiet.result _ c.quiet.ensures done

pub returns-clause-value : goal.returns-clause-value
returns-clause-value c = place_value (option_copied c.args.place) c.integer_of.result c.in_ok-found.found c.quiet.result c.integer_of.ensures c.quiet.ensures c.in_ok-found.ensures.small

pub returns-in_err-found-clause-done : goal.returns-in_err-found-clause-done
returns-in_err-found-clause-done c =
    λ types picks x out.
    let s = c.args.s.now in
    let p = c.pointer_at-p.result in
    let int = c.integer_of.result in
    let new = c.replace.new.s in
    let f = c.in_err-found.field-0.0 in
    let run = fetch_read c.args.args.now types (option_copied c.args.place) picks (begun s x) p c.pointer_at-p.ensures int c.requires.fits.0 c.integer_of.ensures c.args.op c.bits_at-by.result c.requires.op c.requires.fits.1 c.bits_at-by.ensures in
    does_handed c.args.op c.from_residual.result f _ new x out c.from_residual.ensures.1
    (fault_as c.args.op new x out out _ _ run f (memory_fault c.args.op (Modify p (int_size int) (fetched c.args.op int c.bits_at-by.result)) (λ n. Some (val.Int n)) s x new out f c.in_err-found.ensures.told))
