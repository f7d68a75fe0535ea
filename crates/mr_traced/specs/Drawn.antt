-- What is drawn of a trace.
use Rattle.std.specs.Prelude.{◌≡◌, ℕ, List, [], ◌++◌, codes, decimal, flat_map, length, map, Option, None, Some, slice_get}
use Rattle.mr_base.specs.declared.access.Access.{Access}
use Rattle.mr_base.specs.declared.thread.Event.{Event}
use Rattle.mr_base.specs.declared.thread.Event.TheVariants as event
use Rattle.mr_event.specs.Footprint.{Footprint}
use Rattle.mr_event.specs.Order.{thread_at}
use Rattle.mr_listing.specs.ReportReport.{count_line}
use Rattle.mr_listing.specs.Accesses.{access_word, bytes_text}
use Rattle.mr_picture.specs.declared.scene.Drawn.{Drawn}
use Rattle.mr_picture.specs.declared.span.Span.{Span}
use Rattle.mr_picture.specs.Deeds.{end_deed, numbered, wake_deed}
use Rattle.mr_picture.specs.Picture.{scene_text}
use Rattle.mr_picture.specs.Scene.{Sketch, chosen, scene_of}
use Rattle.mr_picture.specs.Span.{steps_in}
use Rattle.mr_traced.specs.Names.{spot_text}
use Rattle.mr_traced.specs.Seen.{Seen}

-- the thread that a step started
abbrev pub started_by : Event → Option ℕ
started_by (event.Spawn thread) = Some thread
started_by _ = None

abbrev pub started_at : Option Footprint → Option ℕ
started_at None = None
started_at (Some foot) = started_by foot.event

-- ---- what a step did, each part behind a line feed

-- to a lock or to another thread
abbrev pub event_deed : Event → List ℕ
event_deed event.Quiet = []
event_deed (event.CreateLock lock) = numbered (codes "creates lock ") lock
event_deed (event.Acquire lock) = numbered (codes "acquires lock ") lock
event_deed (event.Release lock) = numbered (codes "releases lock ") lock
event_deed (event.Spawn thread) = numbered (codes "starts thread ") thread
event_deed (event.Join thread) = numbered (codes "joins thread ") thread

-- an access
abbrev pub access_deed : Access → List ℕ
access_deed a =
    codes "\n" ++ access_word a ++ codes "address " ++ decimal a.addr ++ codes ", " ++ bytes_text a.len

-- all
abbrev pub foot_deeds : Option Footprint → List ℕ
foot_deeds None = []
foot_deeds (Some foot) =
    event_deed foot.event ++ end_deed foot.ended ++ flat_map wake_deed foot.woken ++ flat_map access_deed foot.accesses

-- ---- the picture

-- what is drawn of a step: it stands at its place, with the variable that it uses
abbrev pub drawn_step : Seen → ℕ → Drawn
drawn_step s number = record {
  number = number;
  thread = thread_at s.run number;
  started = started_at (slice_get s.run number);
  stand = spot_text s (slice_get s.sites number);
  did = foot_deeds (slice_get s.run number);
}

abbrev pub drawn_steps : Seen → Span → List Drawn
drawn_steps s span = map (drawn_step s) (steps_in span)

-- a trace as it is drawn: its threads have no names, and below it stands how many races it has
abbrev pub sketch_of : Seen → Sketch
sketch_of s = record { count = length s.run; feet = s.run; races = s.races; names = []; tail = count_line s.races }

-- these steps of a trace
abbrev pub span_text : Seen → Span → List ℕ
span_text s span = scene_text (scene_of (sketch_of s) span (drawn_steps s span))

-- THE PICTURE OF A TRACE, of the steps that are asked for or, without any, of those about the first race
abbrev pub picture_text : Option Span → Seen → List ℕ
picture_text asked s = span_text s (chosen (length s.run) s.races asked)

abbrev pub IsPictureText : Option Span → Seen → List ℕ → Type 0
IsPictureText asked s text = text ≡ picture_text asked s
