-- The law of limits: each completed step keeps them, and leaves a state that keeps its own.
use Rattle.std.specs.Prelude.{◌≡◌, ℕ, List, None}
use Rattle.mr_event.specs.FootOk.{IsFootOk}
use Rattle.mr_start.specs.PlanLegal.{state_fault}
use Rattle.mr_start.specs.PlanLimits.{IsWithin}
use Rattle.mr_start.specs.PlanMachine.{Completed, Language, State, bare}
use Rattle.mr_start.specs.PlanNotes.{Notes, foot_of}
use Rattle.mr_exchange.specs.Swap.{IsSane}

-- THE LAW OF LIMITS, of a language: the footprint of a step of a legal entry keeps the machine's limits, and so does
-- the state behind it
abbrev pub LimitLaw : {L : Type 0} → Language L → Type 0
LimitLaw {L} step =
    (s s' : State L) (t : ℕ) (picks : List ℕ) (n : Notes) → IsSane s → IsWithin s
    → state_fault step s t picks ≡ None → bare step s t picks ≡ Completed n s'
    → IsFootOk (foot_of step.edition s'.shared.memory n) × IsWithin s'
