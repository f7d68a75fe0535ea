-- Runs of entries by bare steps, and neighbours that may be exchanged. (Mazurkiewicz: traces.)
use Rattle.std.specs.Prelude.{◌≡◌, ℕ, List, [], ◌∷◌, None}
use Rattle.mr_event.specs.Footprint.{Footprint}
use Rattle.mr_sched.specs.declared.schedule.Entry.{Entry}
use Rattle.mr_exchange.specs.PlanLegal.{state_fault}
use Rattle.mr_exchange.specs.PlanMachine.{Completed, State, bare}
use Rattle.mr_exchange.specs.PlanNotes.{Notes}
use Rattle.mr_exchange.specs.PlanRuns.{foot_in}
use Rattle.mr_start.specs.FrameFrames.{Look}
use Rattle.mr_start.specs.Steps.{Own, thread_step}

-- what is seen of a completed step: its footprint, and what it printed
pub record Done : Type 0 where
  pub foot : Footprint
  pub printed : List (List ℕ)

-- what a step that noted this shows, with the state that it left
abbrev pub done : Look → Notes → State Own → Done
done look n s = record { foot = foot_in (thread_step look) n s; printed = n.printed }

-- The entries, one behind the other, break no rule of the states that they find, and each completes as this; they lead
-- from the one state to the other.
abbrev pub Leads : Look → State Own → List Entry → List Done → State Own → Type 0
Leads look s [] [] t = s ≡ t
Leads look s [] (d ∷ ds) t = ⊥
Leads look s (e ∷ es) [] t = ⊥
Leads look s (e ∷ es) (d ∷ ds) t =
    (n : Notes) × (u : State Own)
    × (state_fault (thread_step look) s e.thread e.picks ≡ None)
    × (bare (thread_step look) s e.thread e.picks ≡ Completed n u)
    × (d ≡ done look n u)
    × Leads look u es ds t
