-- The schedule that an order of threads becomes over the machine of a program: turn by turn the thread of the order,
-- and for what its step asks for the addresses that `mr_auto` finds.
use Rattle.std.specs.Prelude.{ℕ, Bool, true, false, ◌&&◌, not, if◌then◌else◌, List, [], ◌∷◌, Option, None, Some, is_some}
use Rattle.std.specs.Prelude.{Result, Ok, Err, slice_get}
use Rattle.std.specs.List.{list_any}
use Rattle.mr_ast.specs.declared.program.Program.{Program}
use Rattle.mr_base.specs.declared.thread.Status.{Status}
use Rattle.mr_sched.specs.Chooser.{behind_address}
use Rattle.mr_sched.specs.Rules.{code_of}
use Rattle.mr_sched.specs.declared.chooser.Chooser.{Chooser}
use Rattle.mr_sched.specs.declared.rule.ScheduleRule.TheVariants as rule
use Rattle.mr_sched.specs.declared.schedule.Ask.{Ask}
use Rattle.mr_sched.specs.declared.schedule.Ask.TheVariants.{Address, Waiter}
use Rattle.mr_sched.specs.declared.schedule.Entry.{Entry}
use Rattle.mr_sched.specs.declared.schedule.Schedule.{Schedule}
use Rattle.mr_start.specs.SyncTables.{is_enabled, on_lock}
use Rattle.mr_step.specs.PlanLegal.{Fault, creation_fault}
use Rattle.mr_step.specs.PlanMachine.{State, needs}
use Rattle.mr_step.specs.PlanRuns.{Config, is_running}
use Rattle.mr_start.specs.FrameFrames.{Look}
use Rattle.mr_start.specs.Steps.{Own, thread_step}
use Rattle.mr_start.specs.Runs.{program_step}
use Rattle.mr_start.specs.Start.{look_of, start_config}
use Rattle.mr_auto.specs.Drawing.{Next, Picked, found, put, start_picked, waiting_in}
use Rattle.mr_fill.specs.declared.filling.Filled.{Filled}
use Rattle.mr_fill.specs.declared.filling.Halt.{Halt}
use Rattle.mr_fill.specs.declared.order.Turn.{Turn}

-- ---- picks

-- the thread that gets a lock: the one that is named, if it waits for it, and else the first that waits
abbrev pub receiver_in : List Status → ℕ → Option ℕ → Option ℕ
receiver_in statuses lock None = slice_get (waiting_in lock statuses) 0
receiver_in statuses lock (Some t) = if on_lock lock (slice_get statuses t) then Some t else None

-- the pick for what is asked, if there is one: an address is the one that is found, as a drawn schedule has it
abbrev pub given_pick : List Status → Option ℕ → Chooser → Ask → Option ℕ
given_pick statuses receiver c (Address size align) = found c size align
given_pick statuses receiver c (Waiter lock) = receiver_in statuses lock receiver

-- where the next address is looked for
abbrev pub behind_given : Chooser → Ask → Chooser
behind_given c (Address size align) = behind_address c size align
behind_given c (Waiter lock) = c

-- the picks for all that is asked, in order, if there is one for each
abbrev pub given : List Status → Option ℕ → Chooser → List Ask → Option Picked
given statuses receiver c [] = Some (record { picks = []; chooser = c })
given statuses receiver c (ask ∷ asks) =
    put (given_pick statuses receiver c ask) (given statuses receiver (behind_given c ask) asks)

-- ---- the entry of a turn

abbrev pub is_waiter : Ask → Bool
is_waiter (Address size align) = false
is_waiter (Waiter lock) = true

-- whether it is asked who gets a lock
abbrev pub asks_waiter : List Ask → Bool
asks_waiter asks = list_any is_waiter asks

-- a turn names a thread that gets a lock, and its step doesn't ask for one
abbrev pub is_surplus : Option ℕ → List Ask → Bool
is_surplus receiver asks = is_some receiver && not (asks_waiter asks)

-- the rule that there is no pick for: the thread that is to get a lock doesn't wait for it, or no address is left
abbrev pub missing_code : List Ask → ℕ
missing_code asks = if asks_waiter asks then code_of rule.NotWaiting else code_of rule.BadAddress

-- the entry with these picks, and the chooser behind it; or the rule that there are none for
abbrev pub entry_with : ℕ → List Ask → Option Picked → Result Next ℕ
entry_with t asks None = Err (missing_code asks)
entry_with t asks (Some r) = Ok (record { entry = record { thread = t; picks = r.picks }; chooser = r.chooser })

-- the entry of a turn whose step asks for this
abbrev pub asked_entry : List Status → Chooser → Turn → List Ask → Result Next ℕ
asked_entry statuses c turn asks =
    if is_surplus turn.receiver asks then Err (code_of rule.ExtraPick)
    else entry_with turn.thread asks (given statuses turn.receiver c asks)

-- none where there would be one thread or lock too many
abbrev pub within_limits : Option Fault → Result Next ℕ → Result Next ℕ
within_limits None next = next
within_limits (Some f) next = Err f.code

-- the entry of a turn whose thread can go on
abbrev pub enabled_entry : Look → State Own → Chooser → Turn → Result Next ℕ
enabled_entry look s c turn =
    within_limits (creation_fault s.shared (needs (thread_step look) s turn.thread).creates)
    (asked_entry s.shared.statuses c turn (needs (thread_step look) s turn.thread).asks)

-- the entry of a turn in a state
abbrev pub entry_in : Look → State Own → Chooser → Turn → Result Next ℕ
entry_in look s c turn =
    if is_enabled (slice_get s.shared.statuses turn.thread) then enabled_entry look s c turn
    else Err (code_of rule.NotEnabled)

abbrev pub entry_from : Look → Chooser → Turn → Option (State Own) → Result Next ℕ
entry_from look c turn None = Err (code_of rule.AfterStop)
entry_from look c turn (Some s) = entry_in look s c turn

-- THE ENTRY OF A TURN, and the chooser behind it; or the rule that it would break
abbrev pub entry_at : Look → Config Own → Chooser → Turn → Result Next ℕ
entry_at look c chooser turn =
    if is_running c.verdict then entry_from look chooser turn c.state else Err (code_of rule.AfterStop)

-- ---- the schedule

-- entries, and where the order can't go on behind them, if it can't
pub record Filling : Type 0 where
  pub entries : List Entry
  pub halt : Option Halt

-- one entry in front
abbrev pub behind_entry : Entry → Filling → Filling
behind_entry e f = record { entries = e ∷ f.entries; halt = f.halt }

-- the entry of a turn and what stands behind it; or the order can't go on at this turn
abbrev pub led : Turn → Result Next ℕ → (Next → Filling) → Filling
led turn (Ok next) behind = behind_entry next.entry (behind next)
led turn (Err code) behind = record { entries = []; halt = Some (record { line = turn.line; code = code }) }

-- the entries of some turns from here on, one after the other
abbrev pub filling : Look → Config Own → Chooser → List Turn → Filling
filling look c chooser [] = record { entries = []; halt = None }
filling look c chooser (turn ∷ turns) =
    led turn (entry_at look c chooser turn)
    (λ next. filling look (program_step look c next.entry) next.chooser turns)

abbrev pub filled_from : Program → List Turn → Option Picked → Filled
filled_from p order None = record { schedule = record { start = []; entries = [] }; halt = None }
filled_from p order (Some r) =
    let f = filling (look_of p r.picks) (start_config p r.picks) r.chooser order in
    record { schedule = record { start = r.picks; entries = f.entries }; halt = f.halt }

-- THE SCHEDULE THAT AN ORDER BECOMES: the start line is that of the schedule that is drawn from 0; then each turn has
-- an entry, up to the first turn at which the order can't go on, if there is one
unfoldable pub filled : Program → List Turn → Filled
filled p order = filled_from p order (start_picked p 0)
