-- What the accesses of a step loaded and stored.
use Rattle.std.specs.Prelude.{ℕ, Bool, if◌then◌else◌, List, Option, None, Some, slice_get}
use Rattle.mr_base.specs.declared.access.Access.{Access}
use Rattle.mr_listing.specs.declared.held.Held.{Held}
use Rattle.mr_listing.specs.declared.held.Held.TheVariants as held
use Rattle.mr_listing.specs.declared.held.StepValues.{StepValues}

-- what is held, where there is an answer
abbrev pub held_or : Option Held → Held
held_or None = held.Untold
held_or (Some h) = h

-- what is held behind a step, or before it
abbrev pub side_of : Bool → StepValues → List Held
side_of behind v = if behind then v.behind else v.before

-- WHAT AN ACCESS LOADED OR STORED, which has this position among those of its step: a load what its bytes hold before
-- the step, a store what they hold behind it
abbrev pub held_for : Option StepValues → ℕ → Access → Held
held_for None at a = held.Untold
held_for (Some v) at a = held_or (slice_get (side_of a.store v) at)
