-- What contracts see of a machine.
use Rattle.std.specs.Prelude.{ℕ, Bool, List, Option, None, Some}
use Rattle.std.specs.Result.{result_ok}
use Rattle.std.specs.Borrow.{Bor}
use Rattle.mr_base.specs.declared.byte.AbstractByte.{AbstractByte}
use Rattle.mr_base.specs.declared.byte.Pointer.{Pointer}
use Rattle.mr_mem.specs.Memory.{Memory, read}
use Rattle.mr_frame.specs.Frames.{Look}
use Rattle.mr_frame.specs.declared.stack.At.{At}
use Rattle.mr_frame.specs.Tops.{top_at}
use Rattle.mr_plan.specs.Machine.{Thread}
use Rattle.mr_plan.specs.Runs.{Config, Printed, printed_by}
use Rattle.mr_exchange.specs.StartSteps.{Own}

-- what its steps look up, whether it failed for want of memory, and where it stands
pub record Standing : Type 0 where
  pub look : Look
  pub failed : Bool
  pub config : Config Own

-- a print as it is lent
abbrev pub seen_line : ℕ × Bor (List ℕ) → Printed
seen_line l = printed_by l.0 l.1.now

-- where a thread stands; one that ended stands nowhere
abbrev pub place_in : Option (Thread Own) → Option At
place_in None = None
place_in (Some th) = top_at th.own.stack.frames

-- the bytes from a pointer on, where all of them lie in its live allocation
abbrev pub bytes_from : Memory → Pointer → ℕ → Option (List AbstractByte)
bytes_from m p len = result_ok (read m p len 1)
