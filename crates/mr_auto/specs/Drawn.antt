-- How entries are drawn, one behind the other.
use Rattle.std.specs.Prelude.{◌≡◌, ℕ, ◌<◌, ◌≤◌, ◌++◌, false, List, Some}
use Rattle.mr_start.specs.MemMemory.{ranges_of}
use Rattle.mr_sched.specs.Chooser.{behind_bytes}
use Rattle.mr_sched.specs.declared.chooser.Chooser.{Chooser}
use Rattle.mr_sched.specs.declared.schedule.Entry.{Entry}
use Rattle.mr_typing.specs.Walk.{WellFormed}
use Rattle.mr_run.specs.StepPlanMachine.{State}
use Rattle.mr_run.specs.StepPlanRuns.{Config, after}
use Rattle.mr_start.specs.FrameFits.{IsLook}
use Rattle.mr_run.specs.StepSwapMeets.{IsTaken}
use Rattle.mr_start.specs.Steps.{Own, thread_step}
use Rattle.mr_start.specs.SoundState.{IsSoundConfig}
use Rattle.mr_run.specs.StepStanding.{Standing}
use Rattle.mr_auto.specs.Answers.{HasState}
use Rattle.mr_auto.specs.Drawing.{drawn_entries}

-- a range ends at an address or before it
abbrev pub EndsBy : ℕ → ℕ × ℕ → Type 0
EndsBy next q = behind_bytes q.0 q.1 ≤ next

-- what is found next lies behind 0 and behind all that memory has, dead or live
pub record LiesBehind (c : Config Own) (chooser : Chooser) : Type 0 where
  pub positive : 0 < chooser.next
  pub behind :
      (s : State Own) → c.state ≡ Some s
      → (q : ℕ × ℕ) → IsTaken (ranges_of s.shared.memory) q → EndsBy chooser.next q

-- The machine works and keeps what the machine of a well-formed program keeps, and the chooser's addresses lie behind
-- its memory.
pub record BeginsDrawing (m : Standing) (chooser : Chooser) : Type 0 where
  pub working : m.failed ≡ false
  pub state : HasState m.config
  pub look : IsLook m.look
  pub well : WellFormed m.look.program
  pub sound : IsSoundConfig m.look.program m.config
  pub lies : LiesBehind m.config chooser

-- all that is drawn from here on, at most so many entries
abbrev pub drawn_from_here : ℕ → Standing → Chooser → List Entry
drawn_from_here most m chooser = drawn_entries m.look most m.config chooser

-- These entries were drawn and joined the others, and the machine stands behind them.
pub record DrawnAfter (most : ℕ) (old : Standing) (chooser : Chooser) (new : Standing) (was is : List Entry)
    : Type 0 where
  pub entries : is ≡ was ++ drawn_from_here most old chooser
  pub working : new.failed ≡ false
  pub look : new.look ≡ old.look
  pub config : new.config ≡ after (thread_step old.look) old.config (drawn_from_here most old chooser)
