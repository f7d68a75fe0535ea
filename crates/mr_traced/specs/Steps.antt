-- The steps of a trace, as they are written.
use Rattle.std.specs.Prelude.{◌≡◌, ℕ, ◌+◌, ◌-◌, min, List, [], ◌++◌, codes, decimal, flat_map, length, Option, None}
use Rattle.std.specs.Prelude.{Some, slice_get}
use Rattle.std.specs.List.{range_with_len}
use Rattle.mr_base.specs.declared.access.Access.{Access}
use Rattle.mr_base.specs.declared.thread.Event.{Event}
use Rattle.mr_base.specs.declared.thread.Event.TheVariants as event
use Rattle.mr_event.specs.Footprint.{Footprint}
use Rattle.mr_listing.specs.ReportReport.{count_line}
use Rattle.mr_listing.specs.Accesses.{access_word, bytes_text}
use Rattle.mr_listing.specs.Events.{end_text, note_line, woken_line}
use Rattle.mr_listing.specs.Partners.{partner_line, partners_at}
use Rattle.mr_traced.specs.Names.{site_text}
use Rattle.mr_traced.specs.Seen.{Seen}

-- the thread of a step
abbrev pub thread_text : Option Footprint → List ℕ
thread_text None = []
thread_text (Some foot) = decimal foot.thread

-- `NUMBER  thread T  PLACE  VARIABLE`, as far as these are told; steps are counted from 1
abbrev pub head_line : Seen → ℕ → List ℕ
head_line s number =
    decimal (number + 1) ++ codes "  thread " ++ thread_text (slice_get s.run number)
    ++ site_text s (slice_get s.sites number) ++ codes "\n"

-- `load address A, N bytes`
abbrev pub access_line : Access → List ℕ
access_line a =
    codes "        " ++ access_word a ++ codes "address " ++ decimal a.addr ++ codes ", " ++ bytes_text a.len
    ++ codes "\n"

-- what a step did to a lock or to another thread
abbrev pub event_text : Event → List ℕ
event_text event.Quiet = []
event_text (event.CreateLock lock) = note_line (codes "creates lock ") lock
event_text (event.Acquire lock) = note_line (codes "acquires lock ") lock
event_text (event.Release lock) = note_line (codes "releases lock ") lock
event_text (event.Spawn thread) = note_line (codes "starts thread ") thread
event_text (event.Join thread) = note_line (codes "joins thread ") thread

-- the same, whether it ended its thread, whom it woke, and its accesses
abbrev pub foot_text : Option Footprint → List ℕ
foot_text None = []
foot_text (Some foot) =
    event_text foot.event ++ end_text foot.ended ++ flat_map woken_line foot.woken
    ++ flat_map access_line foot.accesses

-- THE LINES OF A STEP: where it is, what it did, and the steps with which it races
abbrev pub step_text : Seen → ℕ → List ℕ
step_text s number =
    head_line s number ++ foot_text (slice_get s.run number) ++ flat_map partner_line (partners_at s.races number)

-- THE STEPS from one number up to another, counted from 0, and how many races the trace has
abbrev pub steps_text : ℕ → ℕ → Seen → List ℕ
steps_text from to s =
    flat_map (step_text s) (range_with_len from (min to (length s.run) - from)) ++ count_line s.races

abbrev pub IsStepsText : ℕ → ℕ → Seen → List ℕ → Type 0
IsStepsText from to s text = text ≡ steps_text from to s
