-- What the threads share, and what a step may ask of it. (MiniRust, lang: threads and locks.)
use Rattle.std.specs.Prelude.{ℕ, Bool, true, not, List, [], ◌∷◌, ◌++◌, slice_get, Option, None, Some, Result, Ok, Err}
use Rattle.std.specs.Prelude.{if◌then◌else◌}
use Rattle.mr_base.specs.declared.reason.Reason.{Reason}
use Rattle.mr_base.specs.declared.thread.Status.{Status}
use Rattle.mr_base.specs.declared.thread.Event.{Event}
use Rattle.mr_base.specs.declared.thread.Event.TheVariants.{CreateLock, Acquire, Release, Spawn, Join}
use Rattle.mr_mem.specs.Memory.{Memory}
use Rattle.mr_base.specs.Stops.{plainly}
use Rattle.mr_base.specs.Script.{Script, Done, Undefined, IllFormed, Ask, Outcome, Went, Refused, Broken, on}
use Rattle.mr_sync.specs.Tables.{Tables, acquired, any_waits, created, ended, holding, joined, released, spawned, waits}
use Rattle.mr_eval.specs.MemoryQueries.{MemoryQuery, MemoryReply, MemoryScript, memory_answer}
use Rattle.mr_eval.specs.Tally.{Tally}
use Rattle.mr_plan.specs.Notes.{Notes}

-- the memory, the status of each thread, and the holder of each lock
pub record Shared : Type 0 where
  pub memory : Memory
  pub statuses : List Status
  pub holders : List (Option ℕ)

-- the tables of threads and locks
abbrev pub tables_of : Shared → Tables
tables_of s = record { statuses = s.statuses; holders = s.holders }

-- the same with other tables
abbrev pub with_tables : Shared → Tables → Shared
with_tables s x = record s { statuses = x.statuses; holders = x.holders }

-- a query to memory; of a lock: a new one, to take it, whether a thread waits, to give it back; of threads; a print
pub data Query : Type 0 where
  OfMemory : (q : MemoryQuery) → Query
  NewLock : Query
  TryLock : (lock : ℕ) → Query
  Waiting : (lock : ℕ) → Query
  Unlock : (lock : ℕ) (to : Option ℕ) → Query
  Start : Query
  Await : (thread : ℕ) → Query
  Finish : Query
  Print : (text : List ℕ) → Query

-- what each is answered by: a number, a pointer, or whether it is so
abbrev pub Reply : Query → Type 0
Reply (OfMemory q) = MemoryReply q
Reply NewLock = ℕ
Reply (TryLock lock) = Bool
Reply (Waiting lock) = Bool
Reply Start = ℕ
Reply (Await thread) = Bool
Reply _ = Unit {0}

-- a step, or a part of one
abbrev pub StepScript : Type 0 → Type 0
StepScript A = Script Query Reply A

-- a script that asks memory alone, as a part of a step
abbrev pub memory_part : {A : Type 0} → MemoryScript A → StepScript A
memory_part (Done a) = Done a
memory_part (Undefined r) = Undefined r
memory_part IllFormed = IllFormed
memory_part (Ask q k) = Ask (OfMemory q) (λ x. memory_part (k x))

-- ---- what is noted

-- what was done to locks or threads
abbrev pub note : Event → Notes → Notes
note e n = record n { events = n.events ++ e ∷ [] }

-- the same, by a step whose thread can't go on then
abbrev pub blocked : Event → Notes → Notes
blocked e n = record n { events = n.events ++ e ∷ []; stopped = true }

-- a thread that was woken, where one was
abbrev pub woke : Option ℕ → Notes → Notes
woke None n = n
woke (Some u) n = record n { woken = n.woken ++ u ∷ [] }

-- ---- what the tables answer

-- a call that may block the thread is noted in either case
abbrev pub going : Event → Result (Bool × Tables) Reason → Shared → Notes → Outcome Bool (Shared × Notes)
going e (Err r) s n = Refused (plainly r)
going e (Ok p) s n = Went p.0 (with_tables s p.1, if p.0 then note e n else blocked e n)

-- what only looks at the tables
abbrev pub telling : Event → Result Bool Reason → Shared → Notes → Outcome Bool (Shared × Notes)
telling e (Err r) s n = Refused (plainly r)
telling e (Ok b) s n = Went b (s, note e n)

-- a waiter is named exactly where a thread waits, and none where none does
abbrev pub fits : ℕ → Option ℕ → Tables → Bool
fits l None s = not (any_waits l s)
fits l (Some u) s = waits l u s

-- a lock given back; a waiter that is named is woken
abbrev pub giving : ℕ → Option ℕ → Result Tables Reason → Shared → Notes → Outcome (Unit {0}) (Shared × Notes)
giving l to (Err r) s n = Refused (plainly r)
giving l to (Ok x) s n =
    if fits l to (tables_of s) then Went tt (with_tables s x, woke to (note (Release l) n)) else Broken

-- the end of the thread, and those that this wakes
abbrev pub ending : Tables × List ℕ → Shared → Notes → Outcome (Unit {0}) (Shared × Notes)
ending e s n = Went tt (with_tables s e.0, record n { ended = true; stopped = true; woken = n.woken ++ e.1 })

-- what a query to memory comes to in all that is shared
abbrev pub in_shared : {A : Type 0} → Shared × Notes → A → Memory × Tally → Outcome A (Shared × Notes)
in_shared w x v = Went x (record w.0 { memory = v.0 }, record w.1 { tally = v.1 })

-- WHAT EACH QUERY GIVES AND LEAVES. A thread that can't go on takes no lock, waits for no thread and doesn't end.
abbrev pub answer : (q : Query) → Shared × Notes → Outcome (Reply q) (Shared × Notes)
answer (OfMemory q) w = on (memory_answer q (w.0.memory, w.1.tally)) (in_shared w)
answer NewLock w = let c = created (tables_of w.0) in Went c.0 (with_tables w.0 c.1, note (CreateLock c.0) w.1)
answer (TryLock l) w =
    if w.1.stopped then Broken else going (Acquire l) (acquired w.1.tally.thread l (tables_of w.0)) w.0 w.1
answer (Waiting l) w =
    telling (Release l) (holding w.1.tally.thread (slice_get w.0.holders l) (any_waits l (tables_of w.0))) w.0 w.1
answer (Unlock l to) w = giving l to (released w.1.tally.thread l to (tables_of w.0)) w.0 w.1
answer Start w =
    let c = spawned (tables_of w.0) in Went c.0 (with_tables w.0 c.1, woke (Some c.0) (note (Spawn c.0) w.1))
answer (Await u) w = if w.1.stopped then Broken else going (Join u) (joined w.1.tally.thread u (tables_of w.0)) w.0 w.1
answer Finish w = if w.1.stopped then Broken else ending (ended w.1.tally.thread (tables_of w.0)) w.0 w.1
answer (Print text) w = Went tt (w.0, record w.1 { printed = w.1.printed ++ text ∷ [] })
