-- How the code tells what was drawn.
use Rattle.std.specs.Prelude.{◌≡◌, ℕ, true, List, [], ◌∷◌, Option, None, Some}
use Rattle.mr_sched.specs.declared.chooser.Chooser.{Chooser}
use Rattle.mr_sched.specs.declared.schedule.Ask.{Ask}
use Rattle.mr_sched.specs.declared.schedule.Ask.TheVariants.{Address, Waiter}
use Rattle.mr_sched.specs.declared.schedule.Entry.{Entry}
use Rattle.mr_run.specs.StepPlanRuns.{Config, is_running}
use Rattle.mr_run.specs.StepPlanMachine.{State}
use Rattle.mr_start.specs.Steps.{Own}
use Rattle.mr_auto.specs.Drawing.{Next, Picked}

-- addresses alone are asked for
abbrev pub AreAddresses : List Ask → Type 0
AreAddresses [] = Unit {0}
AreAddresses (Address size align ∷ asks) = AreAddresses asks
AreAddresses (Waiter lock ∷ asks) = ⊥

-- a pick, with the chooser behind it; or there is none
abbrev pub PickAnswer : Option ℕ → Chooser → Option ℕ → Chooser → Type 0
PickAnswer defined behind (Some pick) new = (defined ≡ Some pick) × (new ≡ behind)
PickAnswer defined behind None new = defined ≡ None

-- picks, with the chooser behind them; or there are none
abbrev pub PicksAnswer : Option Picked → Option (List ℕ) → Chooser → Type 0
PicksAnswer defined (Some picks) new = defined ≡ Some (record { picks = picks; chooser = new })
PicksAnswer defined None new = defined ≡ None

-- an entry, with the chooser behind it; or there is none
abbrev pub NextAnswer : Option Next → Option Entry → Chooser → Type 0
NextAnswer defined (Some entry) new = defined ≡ Some (record { entry = entry; chooser = new })
NextAnswer defined None new = defined ≡ None

-- a machine that runs has a state
abbrev pub HasState : Config Own → Type 0
HasState c = is_running c.verdict ≡ true → (s : State Own) × (c.state ≡ Some s)
