-- What is kept of the steps of a run.
use Rattle.std.specs.Prelude.{◌≡◌, ℕ, ◌+◌, ◌<◌, ◌^◌, List, length}
use Rattle.mr_clocks.specs.Tracked.{Seen, Tracks}
use Rattle.mr_event.specs.Footprint.{Footprint}
use Rattle.mr_event.specs.declared.footprint.Pair.{Pair}
use Rattle.mr_event.specs.Predicted.{predicted}

-- what keeps some steps has room for one more: their number stays below 2^32
abbrev pub HasRoom : (List Footprint → Type 0) → Type 0
HasRoom keeps = (steps : List Footprint) × keeps steps × (length steps + 1 < 2 ^ 32)

-- the clocks are those of the steps, and the pairs are the races that the steps show
pub record AreAnalysed (steps : List Footprint) (order : Seen) (pairs : List Pair) : Type 0 where
  pub tracks : Tracks order steps
  pub races : pairs ≡ predicted steps
