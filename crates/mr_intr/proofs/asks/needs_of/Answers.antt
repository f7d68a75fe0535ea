use Rattle.mr_intr.proofs.Common.{None, subst, sym, Intrinsic, run, answer, Fits, shared_of, operation}
use Rattle.mr_intr.specs.Needs.{IsPlanned}
use Rattle.mr_intr.specs.declared.need.Creation.TheVariants.{Lock}
use Rattle.mr_intr.proofs.NeedLaws.{needs_lock, needs_nothing}
use Rattle.mr_intr.proofs.asks.needs_of.Goals as goal

pub returns-in-CreateLock : goal.returns-in-CreateLock
returns-in-CreateLock c =
    λ types place m n fit same.
    let P : Intrinsic → Type 0 = λ op. IsPlanned (record { creates = Lock; ask = None }) (run answer (operation op c.args.args.now types place) (shared_of m c.args.sync.now, n)) in
    let Q : Intrinsic → Type 0 = λ op. Fits op c.args.args.now types place in
    subst P (sym c.in-CreateLock.is) (needs_lock c.args.args.now types place (shared_of m c.args.sync.now, n) (subst Q c.in-CreateLock.is fit))

pub returns-in_default : goal.returns-in_default
returns-in_default c =
    λ types place m n fit same.
    needs_nothing c.args.op c.args.args.now types place (shared_of m c.args.sync.now, n) c.asking.result c.asking.ensures c.requires.operation c.in_default.not-Allocate c.in_default.not-Release c.in_default.not-CreateLock fit
