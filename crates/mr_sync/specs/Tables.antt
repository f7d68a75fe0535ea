-- The tables of threads and locks, and what each call on them gives and leaves. (MiniRust, lang: threads and locks.)
use Rattle.std.specs.Prelude.{◌≡◌, ℕ, suc, Bool, true, false, List, [], ◌∷◌, ◌++◌, map, length, slice_set, slice_get}
use Rattle.std.specs.Prelude.{Option, None, Some, Result, Ok, Err, if◌then◌else◌, ◌==◌}
use Rattle.std.specs.List.{list_any}
use Rattle.mr_base.specs.declared.reason.Reason.{Reason}
use Rattle.mr_base.specs.declared.reason.Reason.TheVariants.{UnknownThread, UnknownLock, NotHolder}
use Rattle.mr_base.specs.declared.thread.Status.{Status}
use Rattle.mr_base.specs.declared.thread.Status.TheVariants.{Enabled, OnJoin, OnLock, Ended}

-- the status of each thread, and the holder of each lock; a thread or a lock is named by its position
pub record Tables : Type 0 where
  pub statuses : List Status
  pub holders : List (Option ℕ)

-- one thread, which can go on, and no lock
abbrev pub start_tables : Tables
start_tables = record { statuses = Enabled ∷ []; holders = [] }

-- WHAT A STATUS SAYS

-- of a thread that may exist, whether it can go on
abbrev pub is_enabled : Option Status → Bool
is_enabled (Some Enabled) = true
is_enabled _ = false

-- whether it waits for this lock
abbrev pub on_lock : ℕ → Option Status → Bool
on_lock l (Some (OnLock k)) = k == l
on_lock l _ = false

-- whether it waits for the end of this thread
abbrev pub on_join : ℕ → Option Status → Bool
on_join u (Some (OnJoin k)) = k == u
on_join u _ = false

-- of a thread that exists, whether it ended
abbrev pub over : Option Status → Option Bool
over None = None
over (Some Ended) = Some true
over (Some _) = Some false

-- WHAT THE TABLES SAY

-- t is a thread that can go on
abbrev pub IsEnabled : ℕ → Tables → Type 0
IsEnabled t s = slice_get s.statuses t ≡ Some Enabled

-- whether some thread can go on
abbrev pub is_any_enabled : Tables → Bool
is_any_enabled s = list_any (λ x. is_enabled (Some x)) s.statuses

-- whether thread t waits for lock l
abbrev pub waits : ℕ → ℕ → Tables → Bool
waits l t s = on_lock l (slice_get s.statuses t)

-- whether one of these statuses is that of a thread that waits for lock l
abbrev pub any_waiting : ℕ → List Status → Bool
any_waiting l [] = false
any_waiting l (s ∷ ss) = if on_lock l (Some s) then true else any_waiting l ss

-- whether some thread waits for lock l
abbrev pub any_waits : ℕ → Tables → Bool
any_waits l s = any_waiting l s.statuses

-- whether a thread is named, and it waits for lock l
abbrev pub names_waiter : ℕ → Option ℕ → Tables → Bool
names_waiter l None s = false
names_waiter l (Some u) s = waits l u s

-- the holder of a lock that exists and is taken
abbrev pub taken_by : Option (Option ℕ) → Option ℕ
taken_by None = None
taken_by (Some h) = h

-- the holder of lock l: none exactly where there is no such lock, or it is free
abbrev pub holder_of : ℕ → Tables → Option ℕ
holder_of l s = taken_by (slice_get s.holders l)

-- WHAT A CALL GIVES AND LEAVES

-- a new thread, which is enabled
abbrev pub spawned : Tables → ℕ × Tables
spawned s = (length s.statuses, record s { statuses = s.statuses ++ Enabled ∷ [] })

-- a new lock, which is free
abbrev pub created : Tables → ℕ × Tables
created s = (length s.holders, record s { holders = s.holders ++ None ∷ [] })

-- a lock that is free is taken; a taken one blocks the thread, also the one that holds it
abbrev pub trying : ℕ → ℕ → Option (Option ℕ) → Tables → Result (Bool × Tables) Reason
trying t l None s = Err UnknownLock
trying t l (Some None) s = Ok (true, record s { holders = slice_set s.holders l (Some t) })
trying t l (Some (Some h)) s = Ok (false, record s { statuses = slice_set s.statuses t (OnLock l) })

-- thread t takes lock l (true), or waits for it (false)
abbrev pub acquired : ℕ → ℕ → Tables → Result (Bool × Tables) Reason
acquired t l s = trying t l (slice_get s.holders l) s

-- with no waiter the lock is free; the waiter that is named receives it and can go on
abbrev pub handed : ℕ → Option ℕ → Tables → Tables
handed l None s = record s { holders = slice_set s.holders l None }
handed l (Some u) s =
    if waits l u s then record s { statuses = slice_set s.statuses u Enabled; holders = slice_set s.holders l (Some u) }
    else record s { holders = slice_set s.holders l None }

-- the thread holds the lock, or the reason why it can't give it back
abbrev pub holding : {A : Type 0} → ℕ → Option (Option ℕ) → A → Result A Reason
holding t None a = Err UnknownLock
holding t (Some None) a = Err NotHolder
holding t (Some (Some h)) a = if h == t then Ok a else Err NotHolder

-- thread t gives lock l back, to the waiter that is named
abbrev pub released : ℕ → ℕ → Option ℕ → Tables → Result Tables Reason
released t l to s = holding t (slice_get s.holders l) (handed l to s)

-- a thread that ended is not waited for
abbrev pub awaiting : ℕ → ℕ → Option Bool → Tables → Result (Bool × Tables) Reason
awaiting t u None s = Err UnknownThread
awaiting t u (Some true) s = Ok (true, s)
awaiting t u (Some false) s = Ok (false, record s { statuses = slice_set s.statuses t (OnJoin u) })

-- thread t goes on, since thread u ended (true), or waits for that (false)
abbrev pub joined : ℕ → ℕ → Tables → Result (Bool × Tables) Reason
joined t u s = awaiting t u (over (slice_get s.statuses u)) s

-- the threads that wait for the end of t, the first of the list being number i
abbrev pub joiners : ℕ → ℕ → List Status → List ℕ
joiners t i [] = []
joiners t i (s ∷ ss) = if on_join t (Some s) then i ∷ joiners t (suc i) ss else joiners t (suc i) ss

-- what the end of t makes of a status
abbrev pub wake : ℕ → Status → Status
wake t s = if on_join t (Some s) then Enabled else s

-- thread t ends, and each thread that waits for that can go on; these, by rising number
abbrev pub ended : ℕ → Tables → Tables × List ℕ
ended t s = (record s { statuses = map (wake t) (slice_set s.statuses t Ended) }, joiners t 0 s.statuses)
