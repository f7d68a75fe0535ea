use Rattle.mr_intr.proofs.Common.{List, ap, refl, ◌∙◌, slice_get, Val}
use Rattle.mr_ast.specs.declared.program.Intrinsic.TheVariants as intrinsic
use Rattle.mr_intr.proofs.Arguments.{join_takes}
use Rattle.mr_intr.proofs.LockLaws.{join_read, join_refused, join_went}
use Rattle.mr_intr.proofs.OperatedLaws.{done_as}
use Rattle.mr_intr.proofs.locks.join.Goals as goal

pub number_at-target-requires : goal.number_at-target-requires
number_at-target-requires c =
    let takes = join_takes c.args.args.now c.requires.fits.types c.requires.fits.place c.requires.fits.fits in
    record { number = takes.number; is = ap (λ (l : List Val). slice_get l 0) takes.is; small = takes.small }

pub returns-in-Ok-clause-done : goal.returns-in-Ok-clause-done
returns-in-Ok-clause-done c =
    λ picks s types place out same.
    let number = c.number_at-target.result in
    let run = join_read c.args.args.now types place picks s c.args.sync.now number c.number_at-target.ensures c.requires.fits in
    let done = join_went types place picks s c.args.sync.now c.args.thread same out number c.in-Ok.field-0 c.join.new.self c.in-Ok.ensures.joined in
    done_as intrinsic.Join s c.join.new.self out out _ _ run c.noted.result _ c.noted.ensures done

pub returns-in-Err-clause-done : goal.returns-in-Err-clause-done
returns-in-Err-clause-done c =
    λ picks s types place out same.
    let number = c.number_at-target.result in (
      join_read c.args.args.now types place picks s c.args.sync.now number c.number_at-target.ensures c.requires.fits
          ∙ join_refused types place picks s c.args.sync.now c.args.thread same number c.in-Err.reason c.in-Err.ensures.joined,
      refl,
    )
