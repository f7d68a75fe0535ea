-- The value of a run has no float, so that `serde_json` writes its text as it is defined.
use Rattle.std.proofs.Common.{◌≡◌, ℕ, ◌+◌, ◌-◌, ◌^◌, List, [], ◌∷◌, map, Bool, true, false, nat_lt, length, decimal, Option, None, Some, slice_get, refl, ap, subst, ◌∙◌, ◌++◌}
use Rattle.std.specs.Prelude.{if◌then◌else◌}
use Rattle.std.specs.List.{range_with_len}
use Rattle.serde_json.specs.Data.{Data, number, string, unsigned}
use Rattle.serde_json.specs.View.{items_of}
use Rattle.serde_json.specs.Written.{compact_text, has_float, items_have_float}
use Rattle.mr_ast.specs.declared.program.Program.{Program}
use Rattle.mr_base.specs.declared.access.Access.{Access}
use Rattle.mr_base.specs.declared.byte.AllocId.{AllocId}
use Rattle.mr_base.specs.declared.reason.Verdict.{Verdict}
use Rattle.mr_base.specs.declared.reason.Verdict.TheVariants as verdict
use Rattle.mr_base.specs.declared.thread.Event.{Event}
use Rattle.mr_base.specs.declared.thread.Event.TheVariants as event
use Rattle.mr_event.specs.Footprint.{Footprint}
use Rattle.mr_event.specs.declared.footprint.Pair.{Pair}
use Rattle.mr_report.specs.declared.report.Line.{Line}
use Rattle.mr_places.specs.declared.places.Spot.{Spot}
use Rattle.mr_places.specs.Laid.{spot_at}
use Rattle.mr_labels.specs.Table.{found_at}
use Rattle.mr_labels.specs.declared.names.Name.{Name}
use Rattle.mr_labels.specs.declared.names.Name.TheVariants as name
use Rattle.mr_labels.specs.declared.rows.Allocation.{Allocation}
use Rattle.mr_labels.specs.declared.step.Stand.{Stand}
use Rattle.mr_labels.specs.declared.step.ToldStep.{ToldStep}
use Rattle.mr_listing.specs.declared.held.Held.{Held}
use Rattle.mr_listing.specs.declared.held.Held.TheVariants as held
use Rattle.mr_listing.specs.declared.held.StepValues.{StepValues}
use Rattle.mr_listing.specs.Accesses.{own_row}
use Rattle.mr_listing.specs.Held.{held_for}
use Rattle.mr_listing.specs.Seen.{Seen}
use Rattle.mr_listing.specs.Steps.{printed_by}
use Rattle.mr_json.specs.Accesses.{access_at, access_data, access_of, accesses_data, pointer_data, value_data}
use Rattle.mr_json.specs.Parts.{named_data, number_data, place_data, reached_data, spot_found}
use Rattle.mr_json.specs.Run.{before_of, code_data, json_text, race_data, run_data, side_data}
use Rattle.mr_json.specs.Steps.{did_data, event_data, line_data, lines_data, started_data, step_data, thread_data, woken_data}

either_whole : (c : Bool) (a b : Data) → has_float a ≡ false → has_float b ≡ false → has_float (if c then a else b) ≡ false
either_whole true a b h k = h
either_whole false a b h k = k

number_whole : (n : ℕ) → has_float (number_data n) ≡ false
number_whole n = either_whole (nat_lt n (2 ^ 64)) (number (unsigned n)) (string (decimal n)) refl refl

list_whole : {A : Type 0} (f : A → Data) → ((x : A) → has_float (f x) ≡ false) → (xs : List A)
    → items_have_float (items_of (map f xs)) ≡ false
list_whole f each [] = refl
list_whole f each (x ∷ xs) = rw (each x, list_whole f each xs) refl

spot_whole : (p : Program) (stand : Stand) (spot : Option Spot) → has_float (spot_found p stand spot) ≡ false
spot_whole p stand None = refl
spot_whole p stand (Some spot) = rw (number_whole (stand.at + 1)) refl

place_whole : (s : Seen) (stand : Option Stand) → has_float (place_data s stand) ≡ false
place_whole s None = refl
place_whole s (Some stand) = spot_whole s.program stand (spot_at s.laid stand.function stand.block stand.at)

named_whole : (p : Program) (offset : ℕ) (n : Name) → has_float (named_data p offset n) ≡ false
named_whole p offset (name.Function i) = refl
named_whole p offset (name.Global i) = refl
named_whole p offset (name.Local thread function local) = refl
named_whole p offset (name.Heap step) = rw (number_whole (step + 1)) refl

reached_whole : (p : Program) (addr : ℕ) (row : Option Allocation) → has_float (reached_data p addr row) ≡ false
reached_whole p addr None = refl
reached_whole p addr (Some row) = named_whole p (addr - row.start) row.name

pointer_whole : (s : Seen) (addr : ℕ) (id : Option AllocId) → has_float (pointer_data s addr id) ≡ false
pointer_whole s addr None = refl
pointer_whole s addr (Some id) = rw (reached_whole s.program addr (own_row id (found_at addr s.rows))) refl

value_whole : (s : Seen) (h : Held) → has_float (value_data s h) ≡ false
value_whole s (held.Number n) = number_whole n
value_whole s (held.Pointer p) = pointer_whole s p.addr p.prov
value_whole s held.Nothing = refl
value_whole s held.Untold = refl

access_whole : (s : Seen) (v : Option StepValues) (at : ℕ) (a : Option Access) → has_float (access_of s v at a) ≡ false
access_whole s v at None = refl
access_whole s v at (Some a) =
    rw (reached_whole s.program a.addr (found_at a.addr s.rows), value_whole s (held_for v at a)) refl

accesses_whole : (s : Seen) (v : Option StepValues) (accesses : List Access)
    → has_float (accesses_data s v accesses) ≡ false
accesses_whole s v accesses =
    list_whole (access_at s v accesses) (λ at. access_whole s v at (slice_get accesses at))
    (range_with_len 0 (length accesses))

event_whole : (told : ToldStep) (e : Event) (woken : List ℕ) → has_float (event_data told e woken) ≡ false
event_whole told event.Quiet woken = refl
event_whole told (event.CreateLock lock) woken = refl
event_whole told (event.Acquire lock) woken = refl
event_whole told (event.Release lock) woken = refl
event_whole told (event.Spawn thread) woken = refl
event_whole told (event.Join thread) woken = refl

started_whole : (p : Program) (stand : Option Stand) → has_float (started_data p stand) ≡ false
started_whole p None = refl
started_whole p (Some stand) = refl

woken_whole : (woken : List ℕ) → has_float (woken_data woken) ≡ false
woken_whole woken = list_whole thread_data (λ t. refl) woken

lines_whole : (lines : List Line) → has_float (lines_data lines) ≡ false
lines_whole lines = list_whole line_data (λ l. refl) lines

did_whole : (s : Seen) (v : Option StepValues) (told : ToldStep) (foot : Option Footprint)
    → has_float (did_data s v told foot) ≡ false
did_whole s v told None = refl
did_whole s v told (Some foot) =
    rw (
      accesses_whole s v foot.accesses,
      event_whole told foot.event foot.woken,
      started_whole s.program told.started,
      woken_whole foot.woken,
    ) refl

step_whole : (s : Seen) (values : List StepValues) (told : ToldStep) → has_float (step_data s values told) ≡ false
step_whole s values told =
    rw (
      did_whole s (slice_get values told.number) told (slice_get s.feet told.number),
      number_whole (told.number + 1),
      place_whole s told.before,
      lines_whole (printed_by s.lines told),
    ) refl

side_whole : (s : Seen) (at : ℕ) → has_float (side_data s at) ≡ false
side_whole s at = rw (place_whole s (before_of (slice_get s.steps at)), number_whole (at + 1)) refl

race_whole : (s : Seen) (pair : Pair) → has_float (race_data s pair) ≡ false
race_whole s pair = rw (side_whole s pair.first, side_whole s pair.second) refl

code_whole : (v : Verdict) → has_float (code_data v) ≡ false
code_whole verdict.Running = refl
code_whole verdict.Exit = refl
code_whole verdict.Leak = refl
code_whole verdict.Abort = refl
code_whole verdict.Deadlock = refl
code_whole (verdict.Undefined r) = refl

-- the value of a run has no float
pub run_whole : (s : Seen) (values : List StepValues) → has_float (run_data s values) ≡ false
run_whole s values =
    rw (
      code_whole s.verdict,
      lines_whole s.lines,
      list_whole (race_data s) (race_whole s) s.races,
      list_whole (step_data s values) (step_whole s values) s.steps,
    ) refl

-- ITS TEXT, with a line feed behind it
pub whole_text : (s : Seen) (values : List StepValues) (d : Data) (text now : List ℕ) → d ≡ run_data s values
    → (has_float d ≡ false → text ≡ compact_text d) → now ≡ text ++ 10 ∷ [] → now ≡ json_text s values
whole_text s values d text now is written grown =
    let told = subst (λ (x : Data). has_float x ≡ false → text ≡ compact_text x) is written in
    grown ∙ ap (λ t. t ++ 10 ∷ []) (told (run_whole s values))
