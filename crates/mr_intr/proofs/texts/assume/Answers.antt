use Rattle.mr_intr.proofs.Common.{◌≡◌, List, [], ◌∷◌, true, false, ap, refl, sym, subst, ◌∙◌, slice_get, Val, IsDone, begun, notes_in, operated, Effect}
use Rattle.mr_ast.specs.declared.program.Intrinsic.TheVariants as intrinsic
use Rattle.mr_value.specs.declared.val.Val.TheVariants as val
use Rattle.mr_intr.proofs.Arguments.{assume_takes, one_read}
use Rattle.mr_intr.proofs.OperatedLaws.{operated_assume}
use Rattle.mr_intr.proofs.texts.assume.Goals as goal

pub truth_at-requires : goal.truth_at-requires
truth_at-requires c =
    let takes = assume_takes c.args.args.now c.requires.types c.requires.place c.requires.fits in
    record { truth = takes.truth; is = ap (λ (l : List Val). slice_get l 0) takes.is }

pub returns-then-truth_at-clause-done : goal.returns-then-truth_at-clause-done
returns-then-truth_at-clause-done c =
    λ types place picks out s x.
    let takes = assume_takes c.args.args.now c.requires.types c.requires.place c.requires.fits in
    let args : c.args.args.now ≡ val.Bool true ∷ [] = one_read c.args.args.now (val.Bool takes.truth) (val.Bool c.truth_at.result) takes.is c.truth_at.ensures ∙ ap (λ b. val.Bool b ∷ []) c.if-truth_at.true in
    let went = ap (λ (l : List Val). operated intrinsic.Assume l types place picks (begun s x)) args ∙ operated_assume types place picks (begun s x) true in
    let P : Effect → Type 0 = λ e. IsDone intrinsic.Assume e (operated intrinsic.Assume c.args.args.now types place picks (begun s x)) s x out out in
    subst P (sym c.quiet.ensures) (record { notes = notes_in s; went = went; tally = refl; event = refl; going = refl; woken = refl; printed = (refl, refl) })

pub returns-else-truth_at-clause-done : goal.returns-else-truth_at-clause-done
returns-else-truth_at-clause-done c =
    λ types place picks out s x.
    let takes = assume_takes c.args.args.now c.requires.types c.requires.place c.requires.fits in
    let args : c.args.args.now ≡ val.Bool false ∷ [] = one_read c.args.args.now (val.Bool takes.truth) (val.Bool c.truth_at.result) takes.is c.truth_at.ensures ∙ ap (λ b. val.Bool b ∷ []) c.if-truth_at.false in
    (ap (λ (l : List Val). operated intrinsic.Assume l types place picks (begun s x)) args ∙ operated_assume types place picks (begun s x) false, refl)
