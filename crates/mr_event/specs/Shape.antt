-- The footprint that is kept in a shape.
use Rattle.std.specs.Prelude.{ℕ, List, [], ◌∷◌, Bool, false}
use Rattle.mr_base.specs.declared.access.Access.{Access}
use Rattle.mr_base.specs.declared.byte.AllocId.{AllocId}
use Rattle.mr_base.specs.declared.thread.Event.{Event}
use Rattle.mr_base.specs.declared.thread.Event.TheVariants.{Quiet}
use Rattle.mr_event.specs.declared.shape.Deeds.{Deeds}
use Rattle.mr_event.specs.declared.shape.Reach.{Reach}
use Rattle.mr_event.specs.declared.shape.Shape.{Shape}
use Rattle.mr_event.specs.declared.shape.Shape.TheVariants.{Bare, Single, Many}
use Rattle.mr_event.specs.Footprint.{Footprint}
use Rattle.mr_event.specs.Lists.{listed}

-- the footprint of a step that made, freed and woke nothing
abbrev pub plain : ℕ → Event → Bool → List Access → List AllocId → Footprint
plain thread event ended accesses touched =
    record {
      thread = thread;
      accesses = accesses;
      allocated = [];
      freed = [];
      touched = touched;
      event = event;
      ended = ended;
      woken = [];
    }

-- the footprint of a step of a thread that made one access, and did nothing else
abbrev pub single : ℕ → Reach → Footprint
single thread reach = plain thread Quiet false (reach.access ∷ []) (reach.allocation ∷ [])

-- the footprint of a step of a thread that did all this
abbrev pub many : ℕ → Deeds → Footprint
many thread deeds = listed thread deeds.event deeds.ended deeds.lists

-- the footprint that is kept in a shape
abbrev pub footprint_in : Shape → Footprint
footprint_in (Bare ended thread event) = plain thread event ended [] []
footprint_in (Single thread reach) = single thread reach.value
footprint_in (Many thread deeds) = many thread deeds.value
