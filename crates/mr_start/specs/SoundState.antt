-- What each state of a run keeps, in a well-formed program. (MiniRust, lang: the machine.)
use Rattle.std.specs.Prelude.{◌≡◌, ℕ, ◌<◌, List, [], ◌∷◌, ◌++◌, length, Option, None, Some, slice_get}
use Rattle.std.specs.FinMap as fin
use Rattle.mr_ast.specs.declared.program.Program.{Program}
use Rattle.mr_base.specs.declared.byte.AllocId.{AllocId}
use Rattle.mr_base.specs.declared.thread.Status.{Status}
use Rattle.mr_base.specs.declared.thread.Status.TheVariants.{Enabled, Ended, OnJoin, OnLock}
use Rattle.mr_frame.specs.MemMemory.{Allocation, Memory}
use Rattle.mr_intr.specs.SyncSound.{IsSoundTables}
use Rattle.mr_frame.specs.PlanMachine.{State, Thread}
use Rattle.mr_frame.specs.PlanQueries.{tables_of}
use Rattle.mr_frame.specs.PlanRuns.{Config}
use Rattle.mr_frame.specs.PlanStorage.{AreHeld, Slot}
use Rattle.mr_frame.specs.Fits.{FitsStack}
use Rattle.mr_frame.specs.Frames.{Stack}
use Rattle.mr_frame.specs.Storage.{frame_slots}
use Rattle.mr_start.specs.Steps.{Own}

-- the frames of a thread, by its status: none behind its end
abbrev pub FitsStatus : Program → Status → Stack → Type 0
FitsStatus p Ended s = s.frames ≡ []
FitsStatus p Enabled s = FitsStack p s
FitsStatus p (OnJoin t) s = FitsStack p s
FitsStatus p (OnLock l) s = FitsStack p s

-- the identity's thread exists, and counted it
pub record IsCounted (threads : List (Thread Own)) (id : AllocId) : Type 0 where
  pub thread : Thread Own
  pub is : slice_get threads id.thread ≡ Some thread
  pub below : id.count < thread.count

-- the locals of all frames of a thread
abbrev pub own_slots : Program → Own → List Slot
own_slots p own = frame_slots p own.stack.frames []

-- and those of all threads
abbrev pub thread_slots : Program → List (Thread Own) → List Slot
thread_slots p [] = []
thread_slots p (th ∷ threads) = own_slots p th.own ++ thread_slots p threads

-- WHAT A STATE KEEPS: each thread has its number, a status, and frames that fit it; a waiting thread waits for what is
-- there; each identity is of a thread that counted it; each local that has storage has it in memory, apart from all
-- others.
pub record SoundState (p : Program) (s : State Own) : Type 0 where
  pub tables : IsSoundTables (tables_of s.shared)
  pub many : length s.shared.statuses ≡ length s.threads
  pub numbered : (t : ℕ) (th : Thread Own) → slice_get s.threads t ≡ Some th → th.own.thread ≡ t
  pub fits : (t : ℕ) (status : Status) (th : Thread Own) → slice_get s.shared.statuses t ≡ Some status
      → slice_get s.threads t ≡ Some th → FitsStatus p status th.own.stack
  pub counted : (id : AllocId) (a : Allocation) → fin.get s.shared.memory id ≡ Some a → IsCounted s.threads id
  pub held : AreHeld s.shared.memory (thread_slots p s.threads)

-- the state of a machine, as long as there is one, keeps what states keep
abbrev pub IsSoundConfig : Program → Config Own → Type 0
IsSoundConfig p c = (s : State Own) → c.state ≡ Some s → SoundState p s
