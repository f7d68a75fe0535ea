use Rattle.mr_intr.proofs.Common.{Option, refl, subst, sym, option_copied, Intrinsic, Ty, AreLawful, Fits, FitsPlace}
use Rattle.std.specs.Prelude.{IfOk}
use Rattle.mr_intr.proofs.Arguments.{allocate_takes, create_lock_takes}
use Rattle.mr_intr.proofs.operating.operate.Goals as goal

pub release-requires-clause-lawful : goal.release-requires-clause-lawful
release-requires-clause-lawful c =
    let P : Intrinsic → Type 0 = λ op. AreLawful op c.args.args.now c.args.arg_types.now (option_copied c.args.result_type) c.args.picks.now c.args.s.now c.args.sync.now in
    (c.args.arg_types.now, option_copied c.args.result_type, c.args.s.now, refl, subst P c.in-Release.is c.requires.lawful)

pub returns-in-Allocate-clause-value : goal.returns-in-Allocate-clause-value
returns-in-Allocate-clause-value c =
    let place = option_copied c.args.result_type in
    let P : Intrinsic → Type 0 = λ op. Fits op c.args.args.now c.args.arg_types.now place in
    let takes = allocate_takes c.args.args.now c.args.arg_types.now place (subst P c.in-Allocate.is c.requires.fits) in
    subst (λ (o : Option Ty). IfOk c.allocate.result (λ e. FitsPlace o e.value)) (sym takes.gives) c.allocate.ensures.value

pub returns-in-CreateLock-clause-value : goal.returns-in-CreateLock-clause-value
returns-in-CreateLock-clause-value c =
    let place = option_copied c.args.result_type in
    let P : Intrinsic → Type 0 = λ op. Fits op c.args.args.now c.args.arg_types.now place in
    let takes = create_lock_takes c.args.args.now c.args.arg_types.now place (subst P c.in-CreateLock.is c.requires.fits) in
    subst (λ (o : Option Ty). IfOk c.create_lock.result (λ e. FitsPlace o e.value)) (sym takes.gives) c.create_lock.ensures.value
