-- What is told of a trace, and which files are traces.
use Rattle.std.specs.Prelude.{◌≡◌, ℕ, ◌^◌, ◌==◌, ◌&&◌, nat_le, nat_lt, Bool, if◌then◌else◌, List, bytes_eq, codes}
use Rattle.std.specs.Prelude.{length, take}
use Rattle.std.specs.Prelude.{Option, None, Some, Result, Ok, Err}
use Rattle.mr_trace.specs.Reading.{trace_of}
use Rattle.mr_input.specs.declared.refusal.Refusal.TheVariants as refusal
use Rattle.mr_input.specs.Answer.{Answer, refused}
use Rattle.mr_traced.specs.declared.refusal.PlacesFault.{PlacesFault}
use Rattle.mr_traced.specs.declared.refusal.PlacesFault.TheVariants.{TooLong}
use Rattle.mr_traced.specs.declared.refusal.Untold.{Untold}
use Rattle.mr_traced.specs.declared.refusal.Untold.TheVariants as untold
use Rattle.mr_traced.specs.Answers.{all_races}
use Rattle.mr_traced.specs.Drawn.{picture_text}
use Rattle.mr_traced.specs.Faults.{fault_line}
use Rattle.mr_traced.specs.Orders.{count_either, orders_text}
use Rattle.mr_traced.specs.Places.{named_of}
use Rattle.mr_traced.specs.Races.{races_text}
use Rattle.mr_traced.specs.Seen.{Seen, run_in, seen_bare, seen_in}
use Rattle.mr_traced.specs.Steps.{steps_text}
use Rattle.mr_show.specs.declared.form.Alone.{Alone}
use Rattle.mr_show.specs.declared.form.Alone.TheVariants as alone
use Rattle.mr_show.specs.declared.form.Part.TheVariants.{Picture, Races, Steps, TwoOrders}
use Rattle.mr_show.specs.declared.form.Saying.{Saying}
use Rattle.mr_show.specs.declared.form.Saying.TheVariants.{OfRun}
use Rattle.mr_show.specs.declared.form.Telling.{Telling}
use Rattle.mr_show.specs.declared.form.Telling.TheVariants as telling

-- WHETHER A FILE IS A TRACE: it has at most 2^28 bytes, and begins as a trace does
abbrev pub holds_trace : List ℕ → Bool
holds_trace bytes = nat_le (length bytes) (2 ^ 28) && bytes_eq (take 4 bytes) (codes "MRTR")

-- what is told of a trace whose file stands where that of a program would: its races, those by two orders, its steps,
-- or a picture of it, and nothing else
abbrev pub telling_of : Saying → Option Telling
telling_of (OfRun Races) = Some telling.Races
telling_of (OfRun TwoOrders) = Some telling.TwoOrders
telling_of (OfRun (Steps from to)) = Some (telling.Steps from to)
telling_of (OfRun (Picture asked)) = Some (telling.Picture asked)
telling_of _ = None

-- ---- what is told

abbrev pub telling_text : Telling → Seen → List ℕ
telling_text telling.Races s = races_text s
telling_text telling.TwoOrders s = orders_text s
telling_text (telling.Steps from to) s = steps_text from to s
telling_text (telling.Picture asked) s = picture_text asked s

abbrev pub IsTextOf : Telling → Seen → List ℕ → Type 0
IsTextOf what s text = text ≡ telling_text what s

-- how many races there are, by two orders those of the first list that has some
abbrev pub count_of : Telling → Seen → ℕ
count_of telling.Races s = all_races s
count_of telling.TwoOrders s = count_either s
count_of (telling.Steps from to) s = all_races s
count_of (telling.Picture asked) s = all_races s

-- 1 where there are races
abbrev pub status_of : ℕ → ℕ
status_of races = if races == 0 then 0 else 1

abbrev pub told_answer : Telling → Seen → Answer
told_answer what s = record { text = telling_text what s; status = status_of (count_of what s) }

-- the line of a fault of places, with the status of a fault of a trace
abbrev pub places_answer : PlacesFault → Answer
places_answer fault = record { text = fault_line fault; status = 9 }

-- why nothing is told
abbrev pub untold_answer : Untold → Answer
untold_answer (untold.Trace at code) = refused (refusal.Trace at code)
untold_answer (untold.Places fault) = places_answer fault
untold_answer untold.Memory = refused refusal.Memory

abbrev pub seen_answer : Telling → Result Seen Untold → Answer
seen_answer what (Ok s) = told_answer what s
seen_answer what (Err e) = untold_answer e

-- ---- from what files hold

-- WHAT IS TOLD OF A TRACE at the places of a text; one that is too long is told before the trace is read
abbrev pub text_placed : Telling → List ℕ → List ℕ → Answer
text_placed what trace places =
    if nat_lt (2 ^ 28) (length places) then places_answer TooLong
    else seen_answer what (seen_in (run_in (trace_of trace)) (named_of places))

-- the same at the places of a file, which stands where that of a schedule would
abbrev pub placed_answer : Telling → List ℕ → Option (List ℕ) → Answer
placed_answer what trace None = refused refusal.ReadSchedule
placed_answer what trace (Some places) = text_placed what trace places

-- what is told without places
abbrev pub alone_telling : Alone → Telling
alone_telling (alone.Steps span) = telling.Steps span.from span.to
alone_telling alone.TwoOrders = telling.TwoOrders

-- WHAT IS TOLD OF THE TRACE in a file, without places
abbrev pub bare_answer : Alone → Option (List ℕ) → Answer
bare_answer what None = refused refusal.ReadTrace
bare_answer what (Some trace) = seen_answer (alone_telling what) (seen_bare (run_in (trace_of trace)))
