-- What a witness for a race is: a rearranged part of a run that brings the machine to the two racing steps side by
-- side.
use Rattle.std.specs.Prelude.{◌≡◌, ℕ, Bool, ◌==◌, List, [], ◌∷◌, ◌++◌, map, slice_index_or}
use Rattle.std.specs.List.{filter}
use Rattle.mr_ast.specs.declared.program.Program.{Program}
use Rattle.mr_base.specs.declared.reason.Reason.TheVariants.{DataRace}
use Rattle.mr_base.specs.declared.reason.Verdict.TheVariants as verdict
use Rattle.mr_event.specs.Footprint.{Footprint}
use Rattle.mr_event.specs.Kept.{kept}
use Rattle.mr_event.specs.Order.{step_at}
use Rattle.mr_sched.specs.declared.schedule.Entry.{Entry}
use Rattle.mr_sched.specs.declared.schedule.Schedule.{Schedule}
use Rattle.mr_start.specs.Runs.{Legal, run_of, steps_of}

-- the entry at a place, counted from 0; past the end one without picks
abbrev pub entry_at : List Entry → ℕ → Entry
entry_at entries k = slice_index_or entries k (record { thread = 0; picks = [] })

-- the schedule of the same start line, and of the entries at these places in this order
abbrev pub schedule_at : Schedule → List ℕ → Schedule
schedule_at w ks = record { start = w.start; entries = map (entry_at w.entries) ks }

-- THE WITNESS for (i, j): the entries, in order, of the steps before j, but i, that i does not happen before; i and j.
unfoldable pub kept_schedule : List Footprint → Schedule → ℕ → ℕ → Schedule
kept_schedule run w i j = schedule_at w (kept run i j)

-- the entries of a thread
abbrev pub entries_of : ℕ → List Entry → List Entry
entries_of t entries = filter (λ e. e.thread == t) entries

-- the first list is the beginning of the second
abbrev pub IsPrefix : {A : Type 0} → List A → List A → Type 0
IsPrefix {A} xs ys = (rest : List A) × (xs ++ rest ≡ ys)

-- V IS A WITNESS for the steps i and j of the run of p under w.
pub record IsWitness (p : Program) (w : Schedule) (i j : ℕ) (v : Schedule) : Type 0 where
  -- the places in w of its entries; the last two are i and j
  pub front : List ℕ
  pub from : v ≡ schedule_at w (front ++ i ∷ j ∷ [])
  -- no entry of it breaks a rule, so that each but the last goes
  pub legal : Legal p v
  -- it takes the first entries of each thread
  pub prefix : (t : ℕ) → IsPrefix (entries_of t v.entries) (entries_of t w.entries)
  -- each of its steps completes, as the step of the run that its entry comes from
  pub steps : steps_of p v ≡ map (step_at (steps_of p w)) (front ++ i ∷ j ∷ [])
  -- before its last entry the machine is running, and behind it the data race is reported
  pub running : (run_of p (schedule_at w (front ++ i ∷ []))).verdict ≡ verdict.Running
  pub race : (run_of p v).verdict ≡ verdict.Undefined DataRace
