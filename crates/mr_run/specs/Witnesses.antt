-- The witness for a race of a run.
use Rattle.std.specs.Prelude.{ℕ, ◌==◌, List, [], ◌∷◌, Option, None, Some}
use Rattle.std.specs.List.{find}
use Rattle.mr_event.specs.Footprint.{Footprint}
use Rattle.mr_event.specs.declared.footprint.Pair.{Pair}
use Rattle.mr_step.specs.ExchangeWitness.{kept_schedule}
use Rattle.mr_sched.specs.declared.schedule.Schedule.{Schedule}
use Rattle.mr_witness.specs.Short.{short_schedule}
use Rattle.mr_run.specs.declared.witnesses.Selection.{Selection}
use Rattle.mr_run.specs.declared.witnesses.Selection.TheVariants.{Kept, Needed}

-- the race that is listed for a step
abbrev pub race_of : ℕ → List Pair → Option Pair
race_of step races = find (λ pair. pair.second == step) races

-- the schedule of the race of two steps: the kept one, or the short one
abbrev pub witness_by : Selection → List Footprint → Schedule → ℕ → ℕ → Schedule
witness_by Kept steps w i j = kept_schedule steps w i j
witness_by Needed steps w i j = short_schedule steps w i j

-- the witness for the first of some races, where there is one
abbrev pub witness_for : Selection → List Footprint → Schedule → List Pair → Option Schedule
witness_for selection steps w [] = None
witness_for selection steps w (pair ∷ races) = Some (witness_by selection steps w pair.first pair.second)
