-- What an analysis of a run holds, and the numbers by which it looks for the edges and the partners of a step.
use Rattle.std.specs.Prelude.{◌≡◌, ℕ, ◌+◌, ◌<◌, List, length}
use Rattle.mr_base.specs.declared.access.Access.{Access}
use Rattle.mr_event.specs.Footprint.{Footprint}
use Rattle.mr_event.specs.Order.{thread_at, RacePair}
use Rattle.mr_clocks.specs.declared.rows.Row.{Row}
use Rattle.mr_clocks.specs.declared.rows.Link.{Link}
use Rattle.mr_clocks.specs.Clocks.{AreClocks, AreLatest}
use Rattle.mr_clocks.specs.Rows.{AreRows}
use Rattle.mr_clocks.specs.Skips.{AreSkips}
use Rattle.mr_clocks.specs.Wakers.{AreWakers}

-- one more than the place of the step before j in its thread, or 0
pub record IsNext (run : List Footprint) (j next : ℕ) : Type 0 where
  pub covers : (k : ℕ) → k < j → thread_at run k ≡ thread_at run j → k < next
  pub step : (p : ℕ) → next ≡ p + 1 → (p < j) × (thread_at run p ≡ thread_at run j)

-- the number is one more than that of a partner of j, or 0
abbrev pub IsPartnerOr : List Footprint → ℕ → ℕ → Type 0
IsPartnerOr run j best = (i : ℕ) → best ≡ i + 1 → RacePair run i j

-- what a contract sees of an analysis: clocks, for each step the number of its clock, for each thread its latest step,
-- the rows with their links, the skips over racing steps, and for each thread the steps that woke it, with their links
abbrev pub Seen : Type 0
Seen = List (List ℕ) × List ℕ × List ℕ × List Row × List Link × List (ℕ × ℕ × List Access) × List ℕ × List Link

-- an analysis holds what it is to hold of a run
pub record Tracks (a : Seen) (run : List Footprint) : Type 0 where
  pub clocks : AreClocks run (length run) a.0 a.1
  pub latest : AreLatest run (length run) a.2
  pub rows : AreRows run (length run) a.3 a.4
  pub skips : AreSkips run (length run) a.4 a.5
  pub wakers : AreWakers run (length run) (length run) a.6 a.7
