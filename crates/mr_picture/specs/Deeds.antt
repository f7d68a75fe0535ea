-- What a step of a program's run did, as it is told beside it: each part behind a line feed.
use Rattle.std.specs.Prelude.{ℕ, ◌-◌, Bool, nat_lt, if◌then◌else◌, List, [], ◌++◌, flat_map, codes, decimal, length}
use Rattle.std.specs.Prelude.{slice_range, Option, None, Some, slice_get}
use Rattle.std.specs.List.{range_with_len}
use Rattle.mr_base.specs.declared.access.Access.{Access}
use Rattle.mr_base.specs.declared.thread.Event.{Event}
use Rattle.mr_base.specs.declared.thread.Event.TheVariants as event
use Rattle.mr_event.specs.Footprint.{Footprint}
use Rattle.mr_report.specs.declared.report.Line.{Line}
use Rattle.mr_labels.specs.declared.step.Stand.{Stand}
use Rattle.mr_labels.specs.declared.step.ToldStep.{ToldStep}
use Rattle.mr_labels.specs.Table.{found_at}
use Rattle.mr_labels.specs.Words.{function_word}
use Rattle.mr_listing.specs.Accesses.{access_word, bytes_text, reached_text, value_text}
use Rattle.mr_listing.specs.Events.{acquire_text, join_text, release_text}
use Rattle.mr_listing.specs.Held.{held_for}
use Rattle.mr_listing.specs.declared.held.Held.{Held}
use Rattle.mr_listing.specs.declared.held.StepValues.{StepValues}
use Rattle.mr_listing.specs.Seen.{Seen}
use Rattle.mr_picture.specs.Texts.{cut_at}

-- a word and a number
abbrev pub numbered : List ℕ → ℕ → List ℕ
numbered word number = codes "\n" ++ word ++ decimal number

-- ---- prints

-- the prints of a step: those behind as many as there were before it
abbrev pub printed_by : List Line → ℕ → ℕ → List Line
printed_by lines before behind =
    if nat_lt behind before then []
    else (if nat_lt (length lines) behind then [] else slice_range lines before behind)

-- of a print its first 240 bytes are told: all of it stands in the report, and it may have millions
abbrev pub print_deed : Line → List ℕ
print_deed line = codes "\nprints > " ++ cut_at 240 line.text

-- ---- locks and threads

abbrev pub in_text : Seen → ℕ → List ℕ
in_text s function = codes " in " ++ function_word s.program function

-- which thread it started, and in which function that stands
abbrev pub start_deed : Seen → ℕ → Option Stand → List ℕ
start_deed s thread None = numbered (codes "starts thread ") thread
start_deed s thread (Some stand) = numbered (codes "starts thread ") thread ++ in_text s stand.function

abbrev pub event_deed : Seen → ToldStep → Event → List ℕ → List ℕ
event_deed s told event.Quiet woken = []
event_deed s told (event.CreateLock lock) woken = numbered (codes "creates lock ") lock
event_deed s told (event.Acquire lock) woken = numbered (acquire_text told.status) lock
event_deed s told (event.Release lock) woken = numbered (release_text woken) lock
event_deed s told (event.Spawn thread) woken = start_deed s thread told.started
event_deed s told (event.Join thread) woken = numbered (join_text told.status) thread

abbrev pub end_deed : Bool → List ℕ
end_deed ended = if ended then codes "\nends" else []

abbrev pub wake_deed : ℕ → List ℕ
wake_deed thread = numbered (codes "wakes thread ") thread

-- ---- accesses

-- whether it loads or stores, the name of what it reaches, what it loaded or stored, and how many bytes it has
abbrev pub access_deed : Seen → Option Stand → Held → Access → List ℕ
access_deed s here h a =
    codes "\n" ++ access_word a ++ reached_text s.program here a.addr (found_at a.addr s.rows)
    ++ value_text s here h ++ codes ", " ++ bytes_text a.len

-- the same of the access at a position of a step with these values, where there is one
abbrev pub deed_of : Seen → Option Stand → Option StepValues → ℕ → Option Access → List ℕ
deed_of s here v at None = []
deed_of s here v at (Some a) = access_deed s here (held_for v at a) a

abbrev pub deed_at : Seen → Option Stand → Option StepValues → List Access → ℕ → List ℕ
deed_at s here v accesses at = deed_of s here v at (slice_get accesses at)

-- the same, counted from the last one
abbrev pub deed_back : Seen → Option Stand → Option StepValues → List Access → ℕ → List ℕ
deed_back s here v accesses back = deed_at s here v accesses (length accesses - 1 - back)

-- all, the last one first: the store of an assignment comes last, and the load behind a pointer after that of the
-- pointer, and the end of a long line is cut off
abbrev pub access_deeds : Seen → Option Stand → Option StepValues → List Access → List ℕ
access_deeds s here v accesses = flat_map (deed_back s here v accesses) (range_with_len 0 (length accesses))

-- ---- all

-- what its footprint tells; nothing of a step that did not complete
abbrev pub foot_deeds : Seen → Option StepValues → ToldStep → Option Footprint → List ℕ
foot_deeds s v told None = []
foot_deeds s v told (Some foot) =
    event_deed s told foot.event foot.woken ++ end_deed foot.ended ++ flat_map wake_deed foot.woken
    ++ access_deeds s told.before v foot.accesses

-- WHAT A STEP DID that has these values: its prints, what it did to locks and threads, and its accesses
abbrev pub deeds : Seen → Option StepValues → ToldStep → List ℕ
deeds s v told =
    flat_map print_deed (printed_by s.lines told.prints_before told.prints_behind)
    ++ foot_deeds s v told (slice_get s.feet told.number)
