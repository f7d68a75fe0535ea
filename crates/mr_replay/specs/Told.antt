-- What the steps of a run tell beside their footprints.
use Rattle.std.specs.Prelude.{ℕ, ◌==◌, ◌&&◌, Bool, nat_le, nat_lt, List, [], ◌∷◌, length, map, flat_map, take}
use Rattle.std.specs.Prelude.{Option, None, Some, slice_get, if◌then◌else◌}
use Rattle.std.specs.List.{range_with_len}
use Rattle.std.specs.Option.{option_map}
use Rattle.mr_ast.specs.declared.program.Program.{Program}
use Rattle.mr_base.specs.declared.byte.AllocId.{AllocId}
use Rattle.mr_base.specs.declared.thread.Event.{Event}
use Rattle.mr_base.specs.declared.thread.Event.TheVariants as event
use Rattle.mr_base.specs.declared.thread.Status.{Status}
use Rattle.mr_event.specs.Footprint.{Footprint}
use Rattle.mr_frame.specs.Frames.{Look}
use Rattle.mr_frame.specs.declared.stack.At.{At}
use Rattle.mr_frame.specs.PlanMachine.{State, needs}
use Rattle.mr_frame.specs.PlanRuns.{Config, after}
use Rattle.mr_sched.specs.declared.schedule.Ask.{Ask}
use Rattle.mr_sched.specs.declared.schedule.Entry.{Entry}
use Rattle.mr_sched.specs.declared.schedule.Schedule.{Schedule}
use Rattle.mr_step.specs.StartRuns.{program_step}
use Rattle.mr_step.specs.StartStart.{look_of, start_config}
use Rattle.mr_step.specs.Standing.{place_in}
use Rattle.mr_step.specs.SyncTables.{is_enabled}
use Rattle.mr_step.specs.ThreadSteps.{Own, thread_step}
use Rattle.mr_labels.specs.declared.step.Rest.{Rest}
use Rattle.mr_labels.specs.declared.step.Stand.{Stand}
use Rattle.mr_labels.specs.declared.step.ToldStep.{ToldStep}
use Rattle.mr_replay.specs.declared.telling.Before.{Before}
use Rattle.mr_replay.specs.declared.telling.Between.{Between}

-- ---- where threads stand

-- a place of a thread
abbrev pub stand_with : ℕ → At → Stand
stand_with t at = record { thread = t; function = at.function; block = at.block; at = at.at }

-- where a thread stands in a state; without a state nowhere
abbrev pub stand_from : ℕ → Option (State Own) → Option Stand
stand_from t None = None
stand_from t (Some s) = option_map (stand_with t) (place_in (slice_get s.threads t))

abbrev pub stand_of : Config Own → ℕ → Option Stand
stand_of c t = stand_from t c.state

-- whether a thread can go on, and what it waits for otherwise
abbrev pub status_from : ℕ → Option (State Own) → Option Status
status_from t None = None
status_from t (Some s) = slice_get s.shared.statuses t

abbrev pub status_of : Config Own → ℕ → Option Status
status_of c t = status_from t c.state

-- how a thread stands
abbrev pub rest_of : Config Own → ℕ → Rest
rest_of c t = record { stand = stand_of c t; status = status_of c t }

-- how many threads there are; without a state none
abbrev pub threads_from : Option (State Own) → ℕ
threads_from None = 0
threads_from (Some s) = length s.shared.statuses

-- HOW THE THREADS STAND, in order
abbrev pub rests_of : Config Own → List Rest
rests_of c = map (rest_of c) (range_with_len 0 (threads_from c.state))

-- where the thread stands that a step with this event started
abbrev pub started_by : Config Own → Event → Option Stand
started_by c event.Quiet = None
started_by c (event.CreateLock lock) = None
started_by c (event.Acquire lock) = None
started_by c (event.Release lock) = None
started_by c (event.Spawn t) = stand_of c t
started_by c (event.Join t) = None

abbrev pub started_from : Config Own → Option Footprint → Option Stand
started_from c None = None
started_from c (Some foot) = started_by c foot.event

-- where the thread stands that the last step started, if it started one
abbrev pub started_in : Config Own → Option Stand
started_in c = started_from c c.last

-- ---- what steps ask for

-- what the next step of a thread asks for, where it can go on
abbrev pub asks_from : Look → ℕ → Option (State Own) → List Ask
asks_from look t None = []
asks_from look t (Some s) =
    if is_enabled (slice_get s.shared.statuses t) then (needs (thread_step look) s t).asks else []

abbrev pub asks_at : Look → Config Own → ℕ → List Ask
asks_at look c t = asks_from look t c.state

-- of an entry without picks nothing is told
abbrev pub unless_none : List ℕ → List Ask → List Ask
unless_none [] asks = []
unless_none (pick ∷ picks) asks = asks

abbrev pub asks_by : Look → Config Own → Entry → List Ask
asks_by look c e = unless_none e.picks (asks_at look c e.thread)

-- ---- what a step made

abbrev pub allocated_by : Option Footprint → List AllocId
allocated_by None = []
allocated_by (Some foot) = foot.allocated

-- the allocations that the last step made, before which so many steps were completed: those of its footprint, where it
-- completed too
abbrev pub made_in : ℕ → Config Own → List AllocId
made_in completed c = if c.completed == completed then [] else allocated_by c.last

-- ---- what a step tells

-- what is told before the step of an entry
abbrev pub before_in : Look → Config Own → Entry → Before
before_in look c e = record {
  stand = stand_of c e.thread;
  asks = asks_by look c e;
  picks = e.picks;
  prints = length c.output;
  completed = c.completed;
}

-- the same with what is told behind it
abbrev pub told_between : ℕ → Config Own → ℕ → Before → ToldStep
told_between number c t b = record {
  number = number;
  thread = t;
  before = b.stand;
  behind = stand_of c t;
  status = status_of c t;
  started = started_in c;
  asks = b.asks;
  picks = b.picks;
  made = made_in b.completed c;
  prints_before = b.prints;
  prints_behind = length c.output;
}

-- WHAT THE STEP OF AN ENTRY TELLS, which has this number and is made where the machine stands so
abbrev pub told_step : Look → Config Own → ℕ → Entry → ToldStep
told_step look c number e = told_between number (program_step look c e) e.thread (before_in look c e)

-- the same, where there is an entry
abbrev pub told_of : Look → Config Own → ℕ → Option Entry → List ToldStep
told_of look c number None = []
told_of look c number (Some e) = told_step look c number e ∷ []

-- what the step of the entry of a number tells, which is made where those before it lead
abbrev pub told_at : Look → Config Own → List Entry → ℕ → List ToldStep
told_at look c es number =
    told_of look (after (thread_step look) c (take number es)) number (slice_get es number)

-- the same of so many entries
abbrev pub told_first : Look → Config Own → List Entry → ℕ → List ToldStep
told_first look c es count = flat_map (told_at look c es) (range_with_len 0 count)

-- WHAT THE STEPS OF A RUN TELL
unfoldable pub told_steps : Program → Schedule → List ToldStep
told_steps p w = told_first (look_of p w.start) (start_config p w.start) w.entries (length w.entries)

-- ---- a part of it

-- whether a number is one of these
abbrev pub is_between : Between → ℕ → Bool
is_between b number = nat_le b.from number && nat_lt number b.to

-- a step, if its number is one of these
abbrev pub if_between : Between → ToldStep → List ToldStep
if_between b told = if is_between b told.number then told ∷ [] else []
