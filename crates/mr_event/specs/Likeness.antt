-- When two footprints are alike, field by field.
use Rattle.std.specs.Prelude.{◌≡◌}
use Rattle.mr_event.specs.Footprint.{Footprint}

-- each field of the one is that of the other, but for the threads that they woke
pub record DoTheSame (f g : Footprint) : Type 0 where
  pub thread : f.thread ≡ g.thread
  pub event : f.event ≡ g.event
  pub ended : f.ended ≡ g.ended
  pub accesses : f.accesses ≡ g.accesses
  pub touched : f.touched ≡ g.touched
  pub allocated : f.allocated ≡ g.allocated
  pub freed : f.freed ≡ g.freed

-- each field of the one is that of the other
pub record AreAlike (f g : Footprint) : Type 0 where
  pub thread : f.thread ≡ g.thread
  pub event : f.event ≡ g.event
  pub ended : f.ended ≡ g.ended
  pub accesses : f.accesses ≡ g.accesses
  pub touched : f.touched ≡ g.touched
  pub allocated : f.allocated ≡ g.allocated
  pub freed : f.freed ≡ g.freed
  pub woken : f.woken ≡ g.woken
