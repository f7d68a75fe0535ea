-- Why a step stops, and which bytes it speaks of.
use Rattle.std.specs.Prelude.{ℕ, Bool, true, false, if◌then◌else◌, Option, None, Some}
use Rattle.mr_base.specs.declared.byte.Pointer.{Pointer}
use Rattle.mr_base.specs.declared.reached.Reached.{Reached}
use Rattle.mr_base.specs.declared.reached.Reaching.{Reaching}
use Rattle.mr_base.specs.declared.reason.Reason.{Reason}
use Rattle.mr_base.specs.declared.reason.Reason.TheVariants.{DanglingReference, DeadAllocation, FreeAddress, FreeAlign}
use Rattle.mr_base.specs.declared.reason.Reason.TheVariants.{FreeKind, FreeSize, InvalidValue, Misaligned, NoProvenance}
use Rattle.mr_base.specs.declared.reason.Reason.TheVariants.{OutOfBounds}

-- a stop: the reason, and the bytes that it speaks of, where it speaks of any
pub record Stop : Type 0 where
  pub reason : Reason
  pub about : Option Reached

-- so many bytes from a pointer on, with which this is done
abbrev pub reached_by : Reaching → Pointer → ℕ → Reached
reached_by doing p len = record { doing = doing; pointer = p; len = len }

-- the stop for a reason that speaks of no bytes
abbrev pub plainly : Reason → Stop
plainly r = record { reason = r; about = None }

-- the stop for a reason that speaks of these bytes
abbrev pub over : Reached → Reason → Stop
over bytes r = record { reason = r; about = Some bytes }

-- ---- what is kept of a stop

-- THE REASONS THAT SPEAK OF BYTES: memory gives them, or says of bytes that they mean no value
abbrev pub speaks : Reason → Bool
speaks Misaligned = true
speaks NoProvenance = true
speaks DeadAllocation = true
speaks OutOfBounds = true
speaks InvalidValue = true
speaks DanglingReference = true
speaks FreeAddress = true
speaks FreeKind = true
speaks FreeSize = true
speaks FreeAlign = true
speaks _ = false

-- the stop for a reason, where these bytes were refused last: it speaks of them where its reason speaks of bytes
abbrev pub stop_with : Option Reached → Reason → Stop
stop_with last r = record { reason = r; about = if speaks r then last else None }
