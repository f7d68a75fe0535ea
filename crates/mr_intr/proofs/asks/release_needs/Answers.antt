use Rattle.mr_intr.proofs.Common.{List, Bool, Ok, ap, sym, ◌∙◌, slice_get, Val}
use Rattle.std.proofs.lemmas.Result.{err_from_is_err_and}
use Rattle.mr_intr.proofs.Arguments.{release_takes}
use Rattle.mr_intr.proofs.NeedLaws.{release_asks, release_asks_nothing, release_stops}
use Rattle.mr_intr.proofs.asks.release_needs.Goals as goal

pub number_at-lock-requires : goal.number_at-lock-requires
number_at-lock-requires c =
    let takes = release_takes c.args.args.now c.requires.types c.requires.place c.requires.fits in
    record { number = takes.number; is = ap (λ (l : List Val). slice_get l 0) takes.is; small = takes.small }

pub returns-then-branch : goal.returns-then-branch
returns-then-branch c =
    λ types place m n same.
    release_asks c.args.args.now c.requires c.number_at-lock.result c.number_at-lock.ensures types place m n c.args.sync.now c.args.thread same c.asking.result c.asking.ensures
    (sym c.in_ok-waits_for_held.ensures ∙ ap (λ (b : Bool). Ok b) c.if-branch.true)

pub returns-else-branch : goal.returns-else-branch
returns-else-branch c =
    λ types place m n same.
    release_asks_nothing c.args.args.now c.requires c.number_at-lock.result c.number_at-lock.ensures types place m n c.args.sync.now c.args.thread same c.asking-else-branch.result c.asking-else-branch.ensures
    (sym c.in_ok-waits_for_held.ensures ∙ ap (λ (b : Bool). Ok b) c.if-branch.false)

pub returns-in_err-waits_for_held : goal.returns-in_err-waits_for_held
returns-in_err-waits_for_held c =
    λ types place m n same.
    let p = err_from_is_err_and c.from_residual.result c.from_residual.ensures.1 in
    rw (p.1, p.2) (release_stops c.args.args.now c.requires c.number_at-lock.result c.number_at-lock.ensures types place m n c.args.sync.now c.args.thread same
    c.in_err-waits_for_held.field-0.0 (sym c.in_err-waits_for_held.ensures))
