-- What a completed step read, changed and woke.
use Rattle.std.specs.Prelude.{ℕ, List, Bool}
use Rattle.mr_base.specs.declared.access.Access.{Access}
use Rattle.mr_base.specs.declared.byte.AllocId.{AllocId}
use Rattle.mr_base.specs.declared.thread.Event.{Event}

-- The thread; its loads and stores, in order; the allocations that it made, freed, and touched, in a range check of
-- some length; what it did to a lock or to another thread; whether it ended its own; the threads that it woke, rising.
pub record Footprint : Type 0 where
  pub thread : ℕ
  pub accesses : List Access
  pub allocated : List AllocId
  pub freed : List AllocId
  pub touched : List AllocId
  pub event : Event
  pub ended : Bool
  pub woken : List ℕ
