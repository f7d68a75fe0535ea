-- What a step notes of what it did, and its footprint.
use Rattle.std.specs.Prelude.{ℕ, Bool, true, false, ◌==◌, if◌then◌else◌, List, [], ◌∷◌, ◌++◌, Option, None, Some}
use Rattle.std.specs.Prelude.{flat_map}
use Rattle.std.specs.FinMap as fin
use Rattle.mr_base.specs.declared.access.Access.{Access}
use Rattle.mr_base.specs.declared.byte.AllocId.{AllocId}
use Rattle.mr_base.specs.declared.thread.Event.{Event}
use Rattle.mr_base.specs.declared.thread.Event.TheVariants.{Quiet}
use Rattle.mr_eval.specs.Tally.{Tally, start_tally}
use Rattle.mr_event.specs.Footprint.{Footprint}
use Rattle.mr_mem.specs.Memory.{Memory, extent_of}

-- What it did to memory, locks and threads; whether its thread can't go on, or ended; the threads it woke; its prints.
pub record Notes : Type 0 where
  pub tally : Tally
  pub stopped : Bool
  pub events : List Event
  pub ended : Bool
  pub woken : List ℕ
  pub printed : List (List ℕ)

-- a step of a thread, which has made so many allocations, begins with nothing noted
abbrev pub start_notes : ℕ → ℕ → Notes
start_notes thread count =
    record { tally = start_tally thread count; stopped = false; events = []; ended = false; woken = []; printed = [] }

-- a step does one thing to locks and threads, which a release notes twice; or none
abbrev pub event_of : List Event → Event
event_of [] = Quiet
event_of (e ∷ es) = e

-- ---- which accesses a step has

-- a non-atomic store of all bytes of an allocation, where it has one
abbrev pub whole_store : Option (ℕ × ℕ) → List Access
whole_store None = []
whole_store (Some e) = if e.1 == 0 then [] else record { store = true; atomic = false; addr = e.0; len = e.1 } ∷ []

-- the same of each of these, in order
abbrev pub whole_stores : Memory → List AllocId → List Access
whole_stores m ids = flat_map (λ id. whole_store (extent_of (fin.get m id))) ids

-- THE ACCESSES OF A STEP, in the memory behind it; in edition 2 also a store of all bytes of each allocation it freed
unfoldable pub accesses_in : ℕ → Memory → Tally → List Access
accesses_in edition m n = if edition == 2 then n.accesses ++ whole_stores m n.freed else n.accesses

-- the footprint of a completed step, with the memory behind it
abbrev pub foot_of : ℕ → Memory → Notes → Footprint
foot_of edition m n = record {
  thread = n.tally.thread;
  accesses = accesses_in edition m n.tally;
  allocated = n.tally.made;
  freed = n.tally.freed;
  touched = n.tally.touched;
  event = event_of n.events;
  ended = n.ended;
  woken = n.woken;
}
