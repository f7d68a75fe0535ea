use Rattle.mr_hunt.proofs.Common.{IfOk-weaker}
use Rattle.mr_hunt.proofs.aims.is_met.Goals as goal

pub returns-in-Any : goal.returns-in-Any
returns-in-Any c =
    rw c.in-Any.is (IfOk-weaker c.has_any.result _ _ (λ met h. h c.args.places.now) c.has_any.ensures)

pub returns-in-Race : goal.returns-in-Race
returns-in-Race c =
    rw c.in-Race.is (IfOk-weaker c.has_race.result _ _ (λ met h. h c.args.places.now) c.has_race.ensures)

pub returns-in-RustRace : goal.returns-in-RustRace
returns-in-RustRace c =
    rw c.in-RustRace.is (IfOk-weaker c.has_rust_race.result _ _ (λ met h. h c.args.places.now) c.has_rust_race.ensures)

pub returns-in-Undefined : goal.returns-in-Undefined
returns-in-Undefined c =
    rw c.in-Undefined.is (IfOk-weaker c.has_undefined.result _ _ (λ met h. h c.args.places.now) c.has_undefined.ensures)

pub returns-in-Named : goal.returns-in-Named
returns-in-Named c =
    rw c.in-Named.is (IfOk-weaker c.has_verdict.result _ _ (λ met h. h c.args.places.now) c.has_verdict.ensures)

pub returns-in-Prints : goal.returns-in-Prints
returns-in-Prints c =
    rw c.in-Prints.is (IfOk-weaker c.has_print.result _ _ (λ met h. h c.args.places.now) c.has_print.ensures)
