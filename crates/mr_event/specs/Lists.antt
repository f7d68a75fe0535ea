-- The lists of a step, and the footprint of a step that is told by its lists.
use Rattle.std.specs.Prelude.{◌≡◌, ℕ, Bool}
use Rattle.mr_base.specs.declared.thread.Event.{Event}
use Rattle.mr_event.specs.declared.lists.Lists.{Lists}
use Rattle.mr_event.specs.declared.lists.Step.{Step}
use Rattle.mr_event.specs.Footprint.{Footprint}

-- these are the lists of the step
pub record AreListsOf (step : Step) (lists : Lists) : Type 0 where
  pub accesses : lists.accesses.items ≡ step.accesses.now
  pub allocated : lists.allocated.items ≡ step.allocated.now
  pub freed : lists.freed.items ≡ step.freed.now
  pub touched : lists.touched.items ≡ step.touched.now
  pub woken : lists.woken.items ≡ step.woken.now

-- the footprint of a step
abbrev pub footprint_of : Step → Footprint
footprint_of step =
    record {
      thread = step.thread;
      accesses = step.accesses.now;
      allocated = step.allocated.now;
      freed = step.freed.now;
      touched = step.touched.now;
      event = step.event;
      ended = step.ended;
      woken = step.woken.now;
    }

-- the footprint of a step with these lists
abbrev pub listed : ℕ → Event → Bool → Lists → Footprint
listed thread event ended lists =
    record {
      thread = thread;
      accesses = lists.accesses.items;
      allocated = lists.allocated.items;
      freed = lists.freed.items;
      touched = lists.touched.items;
      event = event;
      ended = ended;
      woken = lists.woken.items;
    }
