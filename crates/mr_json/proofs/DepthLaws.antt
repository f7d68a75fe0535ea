-- The value of a run nests eight deep at most, and `serde_json` reads what nests no deeper than 127.
use Rattle.std.proofs.Common.{◌≡◌, ℕ, ◌+◌, ◌-◌, ◌^◌, ◌≤◌, List, [], ◌∷◌, ◌++◌, map, Bool, true, false, nat_lt, length, decimal, Option, None, Some, slice_get, subst, arith}
use Rattle.std.specs.Prelude.{if◌then◌else◌}
use Rattle.std.specs.List.{range_with_len}
use Rattle.serde_json.specs.Data.{Data, number, string, unsigned, depth, items_depth}
use Rattle.serde_json.specs.Read.{max_depth, read}
use Rattle.serde_json.specs.View.{items_of}
use Rattle.mr_ast.specs.declared.program.Program.{Program}
use Rattle.mr_base.specs.declared.access.Access.{Access}
use Rattle.mr_base.specs.declared.byte.AllocId.{AllocId}
use Rattle.mr_base.specs.declared.reason.Verdict.{Verdict}
use Rattle.mr_base.specs.declared.reason.Verdict.TheVariants as verdict
use Rattle.mr_base.specs.declared.thread.Event.{Event}
use Rattle.mr_base.specs.declared.thread.Event.TheVariants as event
use Rattle.mr_event.specs.Footprint.{Footprint}
use Rattle.mr_event.specs.declared.footprint.Pair.{Pair}
use Rattle.mr_report.specs.declared.report.Line.{Line}
use Rattle.mr_places.specs.declared.places.Spot.{Spot}
use Rattle.mr_places.specs.Laid.{spot_at}
use Rattle.mr_labels.specs.Table.{found_at}
use Rattle.mr_labels.specs.declared.names.Name.{Name}
use Rattle.mr_labels.specs.declared.names.Name.TheVariants as name
use Rattle.mr_labels.specs.declared.rows.Allocation.{Allocation}
use Rattle.mr_labels.specs.declared.step.Stand.{Stand}
use Rattle.mr_labels.specs.declared.step.ToldStep.{ToldStep}
use Rattle.mr_listing.specs.declared.held.Held.{Held}
use Rattle.mr_listing.specs.declared.held.Held.TheVariants as held
use Rattle.mr_listing.specs.declared.held.StepValues.{StepValues}
use Rattle.mr_listing.specs.Accesses.{own_row}
use Rattle.mr_listing.specs.Held.{held_for}
use Rattle.mr_listing.specs.Seen.{Seen}
use Rattle.mr_listing.specs.Steps.{printed_by}
use Rattle.mr_json.specs.Accesses.{access_at, access_data, access_of, accesses_data, pointer_data, value_data}
use Rattle.mr_json.specs.Parts.{named_data, number_data, place_data, reached_data, spot_found}
use Rattle.mr_json.specs.Run.{ReadsAs, before_of, code_data, race_data, run_data, side_data}
use Rattle.mr_json.specs.Steps.{did_data, event_data, line_data, lines_data, started_data, step_data, thread_data, woken_data}

either_deep : (c : Bool) (a b : Data) (n : ℕ) → depth a ≤ n → depth b ≤ n → depth (if c then a else b) ≤ n
either_deep true a b n h k = h
either_deep false a b n h k = k

list_deep : {A : Type 0} (n : ℕ) (f : A → Data) → ((x : A) → depth (f x) ≤ n) → (xs : List A)
    → items_depth (items_of (map f xs)) ≤ n
list_deep n f each [] = omega arith
list_deep n f each (x ∷ xs) = omega (arith, each x, list_deep n f each xs)

number_deep : (n : ℕ) → depth (number_data n) ≤ 0
number_deep n =
    either_deep (nat_lt n (2 ^ 64)) (number (unsigned n)) (string (decimal n)) 0 (omega arith) (omega arith)

spot_deep : (p : Program) (stand : Stand) (spot : Option Spot) → depth (spot_found p stand spot) ≤ 1
spot_deep p stand None = omega arith
spot_deep p stand (Some spot) = omega (arith, number_deep (stand.at + 1))

place_deep : (s : Seen) (stand : Option Stand) → depth (place_data s stand) ≤ 1
place_deep s None = omega arith
place_deep s (Some stand) = spot_deep s.program stand (spot_at s.laid stand.function stand.block stand.at)

named_deep : (p : Program) (offset : ℕ) (n : Name) → depth (named_data p offset n) ≤ 1
named_deep p offset (name.Function i) = omega arith
named_deep p offset (name.Global i) = omega arith
named_deep p offset (name.Local thread function local) = omega arith
named_deep p offset (name.Heap step) = omega (arith, number_deep (step + 1))

reached_deep : (p : Program) (addr : ℕ) (row : Option Allocation) → depth (reached_data p addr row) ≤ 1
reached_deep p addr None = omega arith
reached_deep p addr (Some row) = named_deep p (addr - row.start) row.name

pointer_deep : (s : Seen) (addr : ℕ) (id : Option AllocId) → depth (pointer_data s addr id) ≤ 2
pointer_deep s addr None = omega arith
pointer_deep s addr (Some id) = omega (arith, reached_deep s.program addr (own_row id (found_at addr s.rows)))

value_deep : (s : Seen) (h : Held) → depth (value_data s h) ≤ 2
value_deep s (held.Number n) = omega (arith, number_deep n)
value_deep s (held.Pointer p) = pointer_deep s p.addr p.prov
value_deep s held.Nothing = omega arith
value_deep s held.Untold = omega arith

access_deep : (s : Seen) (v : Option StepValues) (at : ℕ) (a : Option Access) → depth (access_of s v at a) ≤ 3
access_deep s v at None = omega arith
access_deep s v at (Some a) =
    omega (arith, reached_deep s.program a.addr (found_at a.addr s.rows), value_deep s (held_for v at a))

accesses_deep : (s : Seen) (v : Option StepValues) (accesses : List Access) → depth (accesses_data s v accesses) ≤ 4
accesses_deep s v accesses =
    let each = list_deep 3 (access_at s v accesses) (λ at. access_deep s v at (slice_get accesses at))
    (range_with_len 0 (length accesses)) in
    omega (arith, each)

event_deep : (told : ToldStep) (e : Event) (woken : List ℕ) → depth (event_data told e woken) ≤ 1
event_deep told event.Quiet woken = omega arith
event_deep told (event.CreateLock lock) woken = omega arith
event_deep told (event.Acquire lock) woken = omega arith
event_deep told (event.Release lock) woken = omega arith
event_deep told (event.Spawn thread) woken = omega arith
event_deep told (event.Join thread) woken = omega arith

started_deep : (p : Program) (stand : Option Stand) → depth (started_data p stand) ≤ 0
started_deep p None = omega arith
started_deep p (Some stand) = omega arith

woken_deep : (woken : List ℕ) → depth (woken_data woken) ≤ 1
woken_deep woken = omega (arith, list_deep 0 thread_data (λ t. omega arith) woken)

lines_deep : (lines : List Line) → depth (lines_data lines) ≤ 2
lines_deep lines = omega (arith, list_deep 1 line_data (λ l. omega arith) lines)

did_deep : (s : Seen) (v : Option StepValues) (told : ToldStep) (foot : Option Footprint)
    → depth (did_data s v told foot) ≤ 5
did_deep s v told None = omega arith
did_deep s v told (Some foot) =
    omega (
      arith,
      accesses_deep s v foot.accesses,
      event_deep told foot.event foot.woken,
      started_deep s.program told.started,
      woken_deep foot.woken,
    )

step_deep : (s : Seen) (values : List StepValues) (told : ToldStep) → depth (step_data s values told) ≤ 6
step_deep s values told =
    omega (
      arith,
      did_deep s (slice_get values told.number) told (slice_get s.feet told.number),
      number_deep (told.number + 1),
      place_deep s told.before,
      lines_deep (printed_by s.lines told),
    )

side_deep : (s : Seen) (at : ℕ) → depth (side_data s at) ≤ 2
side_deep s at = omega (arith, place_deep s (before_of (slice_get s.steps at)), number_deep (at + 1))

race_deep : (s : Seen) (pair : Pair) → depth (race_data s pair) ≤ 3
race_deep s pair = omega (arith, side_deep s pair.first, side_deep s pair.second)

code_deep : (v : Verdict) → depth (code_data v) ≤ 0
code_deep verdict.Running = omega arith
code_deep verdict.Exit = omega arith
code_deep verdict.Leak = omega arith
code_deep verdict.Abort = omega arith
code_deep verdict.Deadlock = omega arith
code_deep (verdict.Undefined r) = omega arith

run_deep : (s : Seen) (values : List StepValues) → depth (run_data s values) ≤ max_depth
run_deep s values =
    omega (
      arith,
      code_deep s.verdict,
      lines_deep s.lines,
      list_deep 3 (race_data s) (race_deep s) s.races,
      list_deep 6 (step_data s values) (step_deep s values) s.steps,
    )

-- ITS TEXT, with a line feed behind it, reads as the value
pub reads_as : (s : Seen) (values : List StepValues) (d : Data) (text now : List ℕ) → d ≡ run_data s values
    → (depth d ≤ max_depth → read text ≡ Some d) → now ≡ text ++ 10 ∷ [] → ReadsAs now (run_data s values)
reads_as s values d text now is back grown =
    let told = subst (λ (x : Data). depth x ≤ max_depth → read text ≡ Some x) is back in
    (text, grown, told (run_deep s values))
