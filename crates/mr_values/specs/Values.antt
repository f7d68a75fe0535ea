-- What the accesses of a run loaded and stored.
use Rattle.std.specs.Prelude.{ℕ, ◌+◌, if◌then◌else◌, List, [], map, length, take, Option, None, Some, slice_get}
use Rattle.std.specs.List.{range_with_len}
use Rattle.mr_ast.specs.declared.program.Program.{Program}
use Rattle.mr_base.specs.declared.access.Access.{Access}
use Rattle.mr_base.specs.declared.byte.AbstractByte.{AbstractByte}
use Rattle.mr_base.specs.declared.byte.Pointer.{Pointer}
use Rattle.mr_event.specs.Footprint.{Footprint}
use Rattle.mr_step.specs.FrameFrames.{Look}
use Rattle.mr_labels.specs.declared.rows.Allocation.{Allocation}
use Rattle.mr_labels.specs.Table.{found_at}
use Rattle.mr_listing.specs.declared.held.Held.{Held}
use Rattle.mr_listing.specs.declared.held.Held.TheVariants as held
use Rattle.mr_listing.specs.declared.held.StepValues.{StepValues}
use Rattle.mr_step.specs.PlanMachine.{State}
use Rattle.mr_step.specs.PlanRuns.{Config, after}
use Rattle.mr_replay.specs.declared.telling.Between.{Between}
use Rattle.mr_replay.specs.Told.{is_between}
use Rattle.mr_sched.specs.declared.schedule.Entry.{Entry}
use Rattle.mr_sched.specs.declared.schedule.Schedule.{Schedule}
use Rattle.mr_step.specs.Standing.{bytes_from}
use Rattle.mr_step.specs.StartStart.{look_of, start_config}
use Rattle.mr_step.specs.ThreadSteps.{Own, thread_step}
use Rattle.mr_values.specs.Reading.{held_in}

-- ---- one access

-- the bytes from a pointer on, in the memory of a state; without a state there are none
abbrev pub bytes_in : Pointer → ℕ → Option (State Own) → Option (List AbstractByte)
bytes_in p len None = None
bytes_in p len (Some s) = bytes_from s.shared.memory p len

-- what bytes hold, where there are some
abbrev pub held_of : Option (List AbstractByte) → Held
held_of None = held.Untold
held_of (Some bytes) = held_in bytes

-- what the bytes of an access hold in an allocation, where a machine stands so
abbrev pub held_there : Config Own → Access → Allocation → Held
held_there c a row = held_of (bytes_in (record { addr = a.addr; prov = Some row.id }) a.len c.state)

-- the same, where one may be found
abbrev pub held_found : Config Own → Access → Option Allocation → Held
held_found c a None = held.Untold
held_found c a (Some row) = held_there c a row

-- WHAT THE BYTES OF AN ACCESS HOLD where a machine stands so, in the allocation of the run that holds its address
abbrev pub held_at : List Allocation → Config Own → Access → Held
held_at rows c a = held_found c a (found_at a.addr rows)

-- ---- one step

-- THE VALUES OF A STEP with these accesses, which leads from one to the other: what their bytes hold before it and
-- behind it
abbrev pub values_between : List Allocation → List Access → Config Own → Config Own → StepValues
values_between rows accesses before behind = record {
  before = map (held_at rows before) accesses;
  behind = map (held_at rows behind) accesses;
}

abbrev pub accesses_of : Option Footprint → List Access
accesses_of None = []
accesses_of (Some foot) = foot.accesses

-- the accesses of the step of a number that is one of a part; none where it did not complete
abbrev pub accesses_at : Between → List Footprint → ℕ → List Access
accesses_at part feet number = if is_between part number then accesses_of (slice_get feet number) else []

-- the values of the step of a number: the machine stands before it where the entries in front of its own lead, and
-- behind it where its own leads too
abbrev pub values_at : Look → Config Own → List Entry → List Allocation → List Footprint → Between → ℕ → StepValues
values_at look c es rows feet part number =
    values_between rows (accesses_at part feet number) (after (thread_step look) c (take number es))
    (after (thread_step look) c (take (number + 1) es))

-- ---- the run

-- THE VALUES OF THE STEPS OF A RUN, which has these allocations and footprints: those of each entry; of one that is not
-- of the part none is told
unfoldable pub run_values : Program → Schedule → List Allocation → List Footprint → Between → List StepValues
run_values p w rows feet part =
    map (values_at (look_of p w.start) (start_config p w.start) w.entries rows feet part)
    (range_with_len 0 (length w.entries))
