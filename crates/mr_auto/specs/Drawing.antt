-- The schedule that is drawn from a number: its start line, and then entry by entry what the machine asks for.
use Rattle.std.specs.Prelude.{ℕ, zero, suc, ◌==◌, List, [], ◌∷◌, map, length, Option, None, Some, slice_get}
use Rattle.std.specs.Prelude.{Bool, if◌then◌else◌}
use Rattle.std.specs.List.{filter, range_with_len}
use Rattle.std.specs.Option.{option_map}
use Rattle.mr_ast.specs.declared.program.Program.{Program}
use Rattle.mr_base.specs.declared.thread.Status.{Status}
use Rattle.mr_base.specs.declared.thread.Status.TheVariants.{Enabled}
use Rattle.mr_sched.specs.Chooser.{address_from, behind_address, behind_draw, drawn_from, first_chooser}
use Rattle.mr_sched.specs.declared.chooser.Chooser.{Chooser}
use Rattle.mr_sched.specs.declared.schedule.Ask.{Ask}
use Rattle.mr_sched.specs.declared.schedule.Ask.TheVariants.{Address, Waiter}
use Rattle.mr_sched.specs.declared.schedule.Entry.{Entry}
use Rattle.mr_sched.specs.declared.schedule.Schedule.{Schedule}
use Rattle.mr_start.specs.SyncTables.{is_enabled, on_lock}
use Rattle.mr_run.specs.StepPlanLegal.{Fault, creation_fault}
use Rattle.mr_run.specs.StepPlanMachine.{State, needs}
use Rattle.mr_run.specs.StepPlanRuns.{Config, is_running}
use Rattle.mr_start.specs.FrameFrames.{Look}
use Rattle.mr_start.specs.Steps.{Own, thread_step}
use Rattle.mr_start.specs.Runs.{program_step}
use Rattle.mr_start.specs.Start.{ask_of, look_of, pieces, start_config}

-- ---- candidates

-- the threads whose status passes a test, by rising number
abbrev pub threads_where : (Option Status → Bool) → List Status → List ℕ
threads_where test statuses = filter (λ t. test (slice_get statuses t)) (range_with_len 0 (length statuses))

-- those that can go on
abbrev pub enabled_in : List Status → List ℕ
enabled_in = threads_where is_enabled

-- those that wait for a lock
abbrev pub waiting_in : ℕ → List Status → List ℕ
waiting_in lock = threads_where (on_lock lock)

-- the candidate that is drawn, where there is one
abbrev pub candidate : Chooser → List ℕ → Option ℕ
candidate c [] = None
candidate c (x ∷ xs) = Some (drawn_from c (x ∷ xs))

-- ---- picks

-- the address that is found, if one is; none is aligned to 0
abbrev pub found : Chooser → ℕ → ℕ → Option ℕ
found c size align = if align == 0 then None else address_from c.next size align

-- the pick for what is asked, if there is one
abbrev pub pick_of : List Status → Chooser → Ask → Option ℕ
pick_of statuses c (Address size align) = found c size align
pick_of statuses c (Waiter lock) = candidate c (waiting_in lock statuses)

-- the chooser behind it
abbrev pub behind_pick : Chooser → Ask → Chooser
behind_pick c (Address size align) = behind_address c size align
behind_pick c (Waiter lock) = behind_draw c

-- what is picked, and the chooser behind it
pub record Picked : Type 0 where
  pub picks : List ℕ
  pub chooser : Chooser

-- a pick in front of others
abbrev pub put : Option ℕ → Option Picked → Option Picked
put None rest = None
put (Some pick) rest = option_map (λ (r : Picked). record { picks = pick ∷ r.picks; chooser = r.chooser }) rest

-- the picks for all that is asked, in order, if there is one for each
abbrev pub picked : List Status → Chooser → List Ask → Option Picked
picked statuses c [] = Some (record { picks = []; chooser = c })
picked statuses c (ask ∷ asks) = put (pick_of statuses c ask) (picked statuses (behind_pick c ask) asks)

-- ---- entries

-- a drawn entry, and the chooser behind it
pub record Next : Type 0 where
  pub entry : Entry
  pub chooser : Chooser

abbrev pub entry_of : ℕ → Option Picked → Option Next
entry_of t None = None
entry_of t (Some r) = Some (record { entry = record { thread = t; picks = r.picks }; chooser = r.chooser })

-- none where there would be one thread or lock too many
abbrev pub within_limits : Option Fault → Option Next → Option Next
within_limits None next = next
within_limits (Some f) next = None

-- the entry of a thread, with a pick for each thing that its step asks for
abbrev pub entry_from : Look → State Own → Chooser → ℕ → Option Next
entry_from look s c t =
    within_limits (creation_fault s.shared (needs (thread_step look) s t).creates)
    (entry_of t (picked s.shared.statuses c (needs (thread_step look) s t).asks))

-- the entry of a thread that was drawn
abbrev pub entry_by : Look → State Own → Chooser → Option ℕ → Option Next
entry_by look s c None = None
entry_by look s c (Some t) = entry_from look s (behind_draw c) t

-- the next entry in a state: a thread is drawn among those that can go on, and then a pick for each thing that it asks
-- for
abbrev pub next_in : Look → Chooser → Option (State Own) → Option Next
next_in look c None = None
next_in look c (Some s) = entry_by look s c (candidate c (enabled_in s.shared.statuses))

-- the same of a machine, which must be running
abbrev pub next_at : Look → Config Own → Chooser → Option Next
next_at look c chooser = if is_running c.verdict then next_in look chooser c.state else None

-- an entry and those behind it, where there is one
abbrev pub led : Option Next → (Next → List Entry) → List Entry
led None behind = []
led (Some next) behind = next.entry ∷ behind next

-- the entries that are drawn, at most so many
abbrev pub drawn_entries : Look → ℕ → Config Own → Chooser → List Entry
drawn_entries look zero c chooser = []
drawn_entries look (suc n) c chooser =
    led (next_at look c chooser) (λ next. drawn_entries look n (program_step look c next.entry) next.chooser)

-- ---- the schedule

abbrev pub schedule_from : Program → ℕ → Option Picked → Schedule
schedule_from p most None = record { start = []; entries = [] }
schedule_from p most (Some r) = record {
  start = r.picks;
  entries = drawn_entries (look_of p r.picks) most (start_config p r.picks) r.chooser;
}

-- the picks of the start line
abbrev pub start_picked : Program → ℕ → Option Picked
start_picked p number = picked (Enabled ∷ []) (first_chooser number) (map ask_of (pieces p))

-- THE SCHEDULE that is drawn from a number, with at most so many entries. It ends where the machine isn't running,
-- where the drawn thread would create one thread or lock too many, and where no address is found.
unfoldable pub drawn_schedule : Program → ℕ → ℕ → Schedule
drawn_schedule p number most = schedule_from p most (start_picked p number)
