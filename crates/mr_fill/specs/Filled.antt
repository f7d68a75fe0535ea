-- What is promised of a schedule that an order became, and how the code fills it.
use Rattle.std.specs.Prelude.{◌≡◌, ℕ, ◌++◌, false, List, length, map, take, Option, None, Some, slice_get}
use Rattle.std.specs.Option.{option_map}
use Rattle.mr_sched.specs.declared.chooser.Chooser.{Chooser}
use Rattle.mr_sched.specs.declared.schedule.Entry.{Entry}
use Rattle.mr_step.specs.PlanRuns.{after}
use Rattle.mr_start.specs.Steps.{thread_step}
use Rattle.mr_step.specs.Standing.{Standing}
use Rattle.mr_fill.specs.Filling.{Filling, filling}
use Rattle.mr_fill.specs.declared.filling.Halt.{Halt}
use Rattle.mr_fill.specs.declared.order.Turn.{Turn}

-- The order ends where it can't go on: at its end, or at the turn behind as many turns as there are entries.
abbrev pub EndsAt : List Turn → List Entry → Option Halt → Type 0
EndsAt order entries None = length entries ≡ length order
EndsAt order entries (Some halt) = option_map (λ t. t.line) (slice_get order (length entries)) ≡ Some halt.line

-- ENTRIES OF AN ORDER: each has the thread of its turn, and they end where the order can't go on.
pub record AreOf (order : List Turn) (entries : List Entry) (halt : Option Halt) : Type 0 where
  pub threads : map (λ e. e.thread) entries ≡ map (λ t. t.thread) (take (length entries) order)
  pub ends : EndsAt order entries halt

-- all that comes of some turns from here on
abbrev pub filling_here : List Turn → Standing → Chooser → Filling
filling_here turns m chooser = filling m.look m.config chooser turns

-- These entries of some turns joined the others, and the machine stands behind them; and where the turns can't go on.
pub record FilledAfter (turns : List Turn) (old : Standing) (chooser : Chooser) (new : Standing) (was is : List Entry)
    (halt : Option Halt) : Type 0 where
  pub entries : is ≡ was ++ (filling_here turns old chooser).entries
  pub ends : halt ≡ (filling_here turns old chooser).halt
  pub working : new.failed ≡ false
  pub look : new.look ≡ old.look
  pub config : new.config ≡ after (thread_step old.look) old.config (filling_here turns old chooser).entries
