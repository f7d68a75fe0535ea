use Rattle.mr_intr.proofs.Common.{List, ap, refl, ◌∙◌, slice_get, Val, begun, operated}
use Rattle.mr_ast.specs.declared.program.Intrinsic.TheVariants as intrinsic
use Rattle.mr_intr.proofs.Arguments.{release_takes}
use Rattle.mr_intr.proofs.LockLaws.{picks_of, release_read, release_refused, release_went, waiter_given, waiter_known}
use Rattle.mr_intr.proofs.OperatedLaws.{done_as}
use Rattle.mr_intr.proofs.locks.release.Goals as goal

pub number_at-lock-requires : goal.number_at-lock-requires
number_at-lock-requires c =
    let takes = release_takes c.args.args.now c.requires.fits.types c.requires.fits.place c.requires.fits.fits in
    record { number = takes.number; is = ap (λ (l : List Val). slice_get l 0) takes.is; small = takes.small }

pub picked-to-requires : goal.picked-to-requires
picked-to-requires c =
    let x = c.args.sync.now in
    let l = c.number_at-lock.result in
    let law = c.requires.lawful in
    let is = release_read c.args.args.now l c.number_at-lock.ensures c.requires.fits in
    let to = waiter_known law.0 law.1 c.args.picks.now law.2 x c.args.thread law.3 l (picks_of c.args.args.now law.0 law.1 c.args.picks.now law.2 x c.args.thread law.3 l is law.4) in
    record { to = to.to; is = to.is; known = λ u e. rw c.threads.ensures (to.known u e) }

pub release-requires-clause-to : goal.release-requires-clause-to
release-requires-clause-to c =
    let x = c.args.sync.now in
    let l = c.number_at-lock.result in
    let law = c.requires.lawful in
    let is = release_read c.args.args.now l c.number_at-lock.ensures c.requires.fits in
    waiter_given law.0 law.1 c.args.picks.now law.2 x c.args.thread law.3 l c.picked-to.result c.picked-to.ensures (picks_of c.args.args.now law.0 law.1 c.args.picks.now law.2 x c.args.thread law.3 l is law.4)

pub returns-in-Ok-clause-done : goal.returns-in-Ok-clause-done
returns-in-Ok-clause-done c =
    λ s types place out same.
    let x = c.args.sync.now in
    let l = c.number_at-lock.result in
    let law = c.requires.lawful in
    let is = release_read c.args.args.now l c.number_at-lock.ensures c.requires.fits in
    let to = picks_of c.args.args.now law.0 law.1 c.args.picks.now law.2 x c.args.thread law.3 l is law.4 in
    let run = ap (λ (vs : List Val). operated intrinsic.Release vs types place c.args.picks.now (begun s x)) is in
    let done = release_went types place c.args.picks.now s x c.args.thread same l out c.picked-to.result c.release.new.self c.picked-to.ensures to c.in-Ok.ensures.released in
    done_as intrinsic.Release s c.release.new.self out out _ _ run _ _ refl done

pub returns-in-Err-clause-done : goal.returns-in-Err-clause-done
returns-in-Err-clause-done c =
    λ s types place out same.
    let x = c.args.sync.now in
    let l = c.number_at-lock.result in
    let is = release_read c.args.args.now l c.number_at-lock.ensures c.requires.fits in (
      ap (λ (vs : List Val). operated intrinsic.Release vs types place c.args.picks.now (begun s x)) is
          ∙ release_refused types place c.args.picks.now s x c.args.thread same l c.picked-to.result c.in-Err.reason c.in-Err.ensures.released,
      refl,
    )
