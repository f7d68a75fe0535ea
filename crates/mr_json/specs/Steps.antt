-- The steps of a run, as they stand in its JSON.
use Rattle.std.specs.Prelude.{ℕ, ◌+◌, ◌==◌, if◌then◌else◌, List, length, map, codes, Option, None, Some, slice_get}
use Rattle.std.specs.Str.Lossy.{utf8_lossy}
use Rattle.serde_json.specs.Data.{Data, null, boolean, number, string, unsigned, array, object, member, no_members}
use Rattle.serde_json.specs.View.{items_of}
use Rattle.mr_ast.specs.declared.program.Program.{Program}
use Rattle.mr_base.specs.declared.thread.Event.{Event}
use Rattle.mr_base.specs.declared.thread.Event.TheVariants as event
use Rattle.mr_base.specs.declared.thread.Status.{Status}
use Rattle.mr_base.specs.declared.thread.Status.TheVariants.{OnJoin, OnLock}
use Rattle.mr_event.specs.Footprint.{Footprint}
use Rattle.mr_report.specs.declared.report.Line.{Line}
use Rattle.mr_labels.specs.declared.step.Stand.{Stand}
use Rattle.mr_labels.specs.declared.step.ToldStep.{ToldStep}
use Rattle.mr_labels.specs.Words.{function_word}
use Rattle.mr_listing.specs.declared.held.StepValues.{StepValues}
use Rattle.mr_listing.specs.Seen.{Seen}
use Rattle.mr_listing.specs.Steps.{printed_by}
use Rattle.mr_json.specs.Accesses.{accesses_data}
use Rattle.mr_json.specs.Parts.{number_data, place_data}

-- A PRINT: its text, whose bytes are all of ASCII, and the thread that made it
abbrev pub line_data : Line → Data
line_data l = object
    (member (codes "text") (string (utf8_lossy l.text))
    (member (codes "thread") (number (unsigned l.thread)) no_members))

abbrev pub lines_data : List Line → Data
lines_data lines = array (items_of (map line_data lines))

-- ---- what a step did to a lock or to another thread

-- an acquire, by what the thread can do behind it: the lock was taken, or the thread waits for it
abbrev pub acquire_word : Option Status → List ℕ
acquire_word (Some (OnLock lock)) = codes "waits for lock"
acquire_word _ = codes "takes lock"

-- a join: the thread had ended, or its end is waited for
abbrev pub join_word : Option Status → List ℕ
join_word (Some (OnJoin thread)) = codes "waits for thread"
join_word _ = codes "joins thread"

-- a release, by whom it woke: a thread that waits got the lock, or it is free
abbrev pub release_word : List ℕ → List ℕ
release_word woken = if length woken == 0 then codes "frees lock" else codes "gives lock"

-- a deed, and the number of the lock or the thread
abbrev pub deed_data : List ℕ → ℕ → Data
deed_data word n = object
    (member (codes "deed") (string word)
    (member (codes "number") (number (unsigned n)) no_members))

abbrev pub event_data : ToldStep → Event → List ℕ → Data
event_data told event.Quiet woken = null
event_data told (event.CreateLock lock) woken = deed_data (codes "creates lock") lock
event_data told (event.Acquire lock) woken = deed_data (acquire_word told.status) lock
event_data told (event.Release lock) woken = deed_data (release_word woken) lock
event_data told (event.Spawn thread) woken = deed_data (codes "starts thread") thread
event_data told (event.Join thread) woken = deed_data (join_word told.status) thread

-- the function in which a thread was started, where one was
abbrev pub started_data : Program → Option Stand → Data
started_data p None = null
started_data p (Some stand) = string (function_word p stand.function)

-- the threads that a step woke
abbrev pub thread_data : ℕ → Data
thread_data thread = number (unsigned thread)

abbrev pub woken_data : List ℕ → Data
woken_data woken = array (items_of (map thread_data woken))

-- ---- steps

-- WHAT A STEP DID: its accesses, which have these values; whether it ended its thread; what it did to a lock or to
-- another thread; in which function it started one; and whom it woke. Null where it didn't complete
abbrev pub did_data : Seen → Option StepValues → ToldStep → Option Footprint → Data
did_data s v told None = null
did_data s v told (Some foot) = object
    (member (codes "accesses") (accesses_data s v foot.accesses)
    (member (codes "ends") (boolean foot.ended)
    (member (codes "event") (event_data told foot.event foot.woken)
    (member (codes "starts") (started_data s.program told.started)
    (member (codes "wakes") (woken_data foot.woken) no_members)))))

-- A STEP: what it did, its number, counted from 1, where its thread stood before it, its prints, and its thread. What
-- its accesses hold stands at its number
abbrev pub step_data : Seen → List StepValues → ToldStep → Data
step_data s values told = object
    (member (codes "did") (did_data s (slice_get values told.number) told (slice_get s.feet told.number))
    (member (codes "number") (number_data (told.number + 1))
    (member (codes "place") (place_data s told.before)
    (member (codes "prints") (lines_data (printed_by s.lines told))
    (member (codes "thread") (number (unsigned told.thread)) no_members)))))
