-- What a step changes of memory, and what it notes of that, as the code's scene keeps it.
use Rattle.std.specs.Prelude.{◌≡◌, Option, Result, Ok, Err}
use Rattle.mr_mem.specs.Memory.{Memory}
use Rattle.mr_mem.specs.declared.fault.Fault.{Fault}
use Rattle.mr_mem.specs.declared.fault.Fault.TheVariants as fault
use Rattle.mr_base.specs.declared.reached.Reached.{Reached}
use Rattle.mr_base.specs.Script.{Outcome, Refused, Went}
use Rattle.mr_base.specs.Stops.{stop_with}
use Rattle.mr_eval.specs.declared.scene.Scene.{Scene}
use Rattle.mr_eval.specs.Tally.{Tally}

-- memory, and what a step noted of it by then
abbrev pub World : Type 0
World = Memory × Tally

-- what a scene has noted
abbrev pub tally_of : Scene → Tally
tally_of s = record {
  thread = s.thread;
  count = s.count;
  accesses = s.notes.accesses;
  touched = s.notes.touched;
  made = s.made;
  ranges = s.ranges.items;
  freed = s.freed;
}

-- a scene without where its lists lie
abbrev pub world_of : Scene → World
world_of s = (s.memory, tally_of s)

-- What a call returned, seen by view, and left of the state is what the run comes to, unless memory ran out. A stop
-- speaks of the bytes that were refused last, where its reason speaks of bytes.
abbrev pub TellsBy : {X Y S : Type 0} → (X → Y) → Result X Fault → Outcome Y S → S → Option Reached → Type 0
TellsBy view (Ok x) o s last = o ≡ Went (view x) s
TellsBy view (Err (fault.Undefined r)) o s last = o ≡ Refused (stop_with last r)
TellsBy view (Err fault.Memory) o s last = Unit {0}
