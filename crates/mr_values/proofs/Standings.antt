-- The bytes that a machine lends, by the state in which it stands.
use Rattle.std.proofs.Common.{◌≡◌, ℕ, List, Option, Some, None, refl}
use Rattle.mr_base.specs.declared.byte.AbstractByte.{AbstractByte}
use Rattle.mr_base.specs.declared.byte.Pointer.{Pointer}
use Rattle.mr_step.specs.PlanMachine.{State}
use Rattle.mr_step.specs.Standing.{bytes_from}
use Rattle.mr_step.specs.ThreadSteps.{Own}
use Rattle.mr_values.specs.Values.{bytes_in}

pub bytes_are : (p : Pointer) (len : ℕ) (state : Option (State Own)) (lent : Option (List AbstractByte))
    → ((s : State Own) → state ≡ Some s → lent ≡ bytes_from s.shared.memory p len) → (state ≡ None → lent ≡ None)
    → lent ≡ bytes_in p len state
bytes_are p len None lent there gone = gone refl
bytes_are p len (Some s) lent there gone = there s refl
