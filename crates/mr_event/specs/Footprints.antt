-- When a step wakes a thread, and when a later step of another thread depends on it, as tests on their footprints.
use Rattle.std.specs.Prelude.{ℕ, List, Bool, true, false, ◌&&◌, ◌||◌, ◌==◌, Option, Some, None}
use Rattle.std.specs.List.{list_any}
use Rattle.mr_base.specs.declared.byte.AllocId.{AllocId}
use Rattle.mr_base.specs.Accesses.{some_conflict}
use Rattle.mr_base.specs.declared.thread.Event.{Event}
use Rattle.mr_base.specs.declared.thread.Event.TheVariants.{CreateLock, Acquire, Release, Spawn, Join}
use Rattle.mr_event.specs.Footprint.{Footprint}
use Rattle.mr_base.specs.Identities.{same_id}

-- whether some allocation stands in both lists
abbrev pub share_id : List AllocId → List AllocId → Bool
share_id xs ys = list_any (λ x. list_any (same_id x) ys) xs

-- the lock that a step creates, acquires, fails to acquire or releases
abbrev pub lock_of : Event → Option ℕ
lock_of (CreateLock lock) = Some lock
lock_of (Acquire lock) = Some lock
lock_of (Release lock) = Some lock
lock_of _ = None

-- whether both are there, and equal
abbrev pub same_number : Option ℕ → Option ℕ → Bool
same_number (Some x) (Some y) = x == y
same_number _ _ = false

-- whether both act on one lock
abbrev pub same_lock : Event → Event → Bool
same_lock d e = same_number (lock_of d) (lock_of e)

-- whether both create a lock, so that their order gives the locks their numbers
abbrev pub both_create : Event → Event → Bool
both_create (CreateLock _) (CreateLock _) = true
both_create _ _ = false

-- whether both spawn a thread, so that their order gives the threads their numbers
abbrev pub both_spawn : Event → Event → Bool
both_spawn (Spawn _) (Spawn _) = true
both_spawn _ _ = false

-- whether the event spawns the thread
abbrev pub spawns : Event → ℕ → Bool
spawns (Spawn spawned) thread = spawned == thread
spawns _ _ = false

-- whether the event, of a step of another thread, joins a thread that f spawns or ends; f ends its own thread alone
abbrev pub joins_of : Footprint → Event → Bool
joins_of f (Join joined) = spawns f.event joined || f.ended && (f.thread == joined)
joins_of _ _ = false

-- Whether g depends on f, an earlier step of another thread: they act on one lock, create locks, or spawn; one joins
-- what the other spawns or ends; g touches or frees what f made, or frees what f touched; or some accesses conflict.
unfoldable pub depends : Footprint → Footprint → Bool
depends f g =
    same_lock f.event g.event || both_create f.event g.event || both_spawn f.event g.event || joins_of f g.event
    || joins_of g f.event || share_id f.allocated g.touched || share_id f.allocated g.freed
    || share_id f.touched g.freed || some_conflict f.accesses g.accesses

-- whether f woke or created the thread; a step that spawns a thread creates it, whatever its list of woken threads
unfoldable pub wakes : Footprint → ℕ → Bool
wakes f thread = list_any (λ t. t == thread) f.woken || spawns f.event thread
