use Rattle.mr_intr.proofs.Common.{List, ap, sym, ◌∙◌, slice_get, Val}
use Rattle.mr_intr.proofs.Arguments.{allocate_takes}
use Rattle.mr_intr.proofs.NeedLaws.{allocation_asks, allocation_stops}
use Rattle.mr_intr.proofs.asks.allocation_needs.Goals as goal

pub size_at-size-requires : goal.size_at-size-requires
size_at-size-requires c =
    let takes = allocate_takes c.args.args.now c.requires.types c.requires.place c.requires.fits in
    record { number = takes.size; is = ap (λ (l : List Val). slice_get l 0) takes.is; small = takes.size_small }

pub size_at-align-requires : goal.size_at-align-requires
size_at-align-requires c =
    let takes = allocate_takes c.args.args.now c.requires.types c.requires.place c.requires.fits in
    record { number = takes.align; is = ap (λ (l : List Val). slice_get l 1) takes.is; small = takes.align_small }

pub returns-in-None : goal.returns-in-None
returns-in-None c =
    λ types place w.
    allocation_asks c.args.args.now c.size_at-size.result c.size_at-align.result c.requires c.size_at-size.ensures c.size_at-align.ensures types place w c.asking.result c.asking.ensures
    (sym c.allocation_fault.ensures ∙ c.in-None.is)

pub returns-in-Some : goal.returns-in-Some
returns-in-Some c =
    λ types place w.
    allocation_stops c.args.args.now c.size_at-size.result c.size_at-align.result c.requires c.size_at-size.ensures c.size_at-align.ensures types place w c.in-Some.reason
    (sym c.allocation_fault.ensures ∙ c.in-Some.is)
