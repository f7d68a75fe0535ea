-- What a step did to locks and threads, as it is written.
use Rattle.std.specs.Prelude.{ℕ, Bool, ◌==◌, length, if◌then◌else◌, List, [], ◌++◌, codes, decimal}
use Rattle.std.specs.Prelude.{Option, None, Some}
use Rattle.mr_ast.specs.declared.program.Program.{Program}
use Rattle.mr_base.specs.declared.thread.Event.{Event}
use Rattle.mr_base.specs.declared.thread.Event.TheVariants as event
use Rattle.mr_base.specs.declared.thread.Status.{Status}
use Rattle.mr_base.specs.declared.thread.Status.TheVariants.{OnJoin, OnLock}
use Rattle.mr_labels.specs.declared.step.Stand.{Stand}
use Rattle.mr_labels.specs.declared.step.ToldStep.{ToldStep}
use Rattle.mr_labels.specs.Words.{function_word}

-- a word and a number, on a line of a step
abbrev pub note_line : List ℕ → ℕ → List ℕ
note_line word number = codes "        " ++ word ++ decimal number ++ codes "\n"

-- what an acquire came to, by what the thread can do behind it: the lock was taken, or the thread waits for it
abbrev pub acquire_text : Option Status → List ℕ
acquire_text (Some (OnLock lock)) = codes "waits for lock "
acquire_text _ = codes "takes lock "

-- what a join came to: the thread had ended, or its end is waited for
abbrev pub join_text : Option Status → List ℕ
join_text (Some (OnJoin thread)) = codes "waits for the end of thread "
join_text _ = codes "joins thread "

-- what a release came to, by whom it woke: a thread that waits got the lock, or it is free
abbrev pub release_text : List ℕ → List ℕ
release_text woken = if length woken == 0 then codes "frees lock " else codes "gives lock "

-- which thread was started, which stands in a function
abbrev pub start_line : Program → ℕ → Stand → List ℕ
start_line p number stand =
    codes "        starts thread " ++ decimal number ++ codes " in " ++ function_word p stand.function ++ codes "\n"

-- the same, where it may stand nowhere
abbrev pub started_text : Program → ℕ → Option Stand → List ℕ
started_text p number None = note_line (codes "starts thread ") number
started_text p number (Some stand) = start_line p number stand

-- WHAT A STEP DID to a lock or to another thread, which woke these
abbrev pub event_text : Program → ToldStep → Event → List ℕ → List ℕ
event_text p told event.Quiet woken = []
event_text p told (event.CreateLock lock) woken = note_line (codes "creates lock ") lock
event_text p told (event.Acquire lock) woken = note_line (acquire_text told.status) lock
event_text p told (event.Release lock) woken = note_line (release_text woken) lock
event_text p told (event.Spawn thread) woken = started_text p thread told.started
event_text p told (event.Join thread) woken = note_line (join_text told.status) thread

-- that its thread ended, where it did
abbrev pub end_text : Bool → List ℕ
end_text ended = if ended then codes "        ends\n" else []

-- a thread that it woke
abbrev pub woken_line : ℕ → List ℕ
woken_line thread = note_line (codes "wakes thread ") thread
