-- How the machine keeps where it stands, and what stays true of it.
use Rattle.std.specs.Prelude.{◌≡◌, ℕ, suc, Bool, false, List, [], ◌∷◌, length, map, Option, None, Some, if◌then◌else◌}
use Rattle.mr_ast.specs.declared.program.Program.{Program}
use Rattle.mr_layout.specs.Cached.{IsCacheOf}
use Rattle.mr_typing.specs.Walk.{WellFormed}
use Rattle.mr_plan.specs.Limits.{AreWithin}
use Rattle.mr_plan.specs.Machine.{State, Thread, thread_of}
use Rattle.mr_plan.specs.Runs.{Config, Printed, printed_by}
use Rattle.mr_frame.specs.declared.stack.Stack.{Stack as KeptStack}
use Rattle.mr_frame.specs.Frames.{Look, Stack}
use Rattle.mr_frame.specs.declared.stack.At.{At}
use Rattle.mr_frame.specs.Kept.{frame_of, stack_of}
use Rattle.mr_frame.specs.Tops.{at_of}
use Rattle.mr_exchange.specs.StartSoundState.{SoundState}
use Rattle.mr_exchange.specs.StartSteps.{Own}
use Rattle.mr_step.specs.declared.machine.Machine.TheInside.{Inside}
use Rattle.mr_step.specs.declared.progress.Line.{Line}
use Rattle.mr_step.specs.declared.progress.Progress.{Progress}
use Rattle.mr_step.specs.declared.progress.Thread.{Thread as KeptThread}
use Rattle.mr_step.specs.declared.setting.Setting.{Setting}
use Rattle.mr_step.specs.Standing.{Standing}

abbrev pub printed_of : Line → Printed
printed_of l = printed_by l.thread l.text.items

-- the frames and the payloads of a thread; one that ended has no frame
abbrev pub stack_in : Bool → KeptStack → Stack
stack_in ended s = if ended then record (stack_of s) { frames = [] } else stack_of s

-- thread n, whether it has ended, how many allocations it has made, and its stack
abbrev pub standing_thread : ℕ → Bool → ℕ → KeptStack → Thread Own
standing_thread n ended count s = thread_of (record { thread = n; stack = stack_in ended s }) count

-- threads, of which the first has number n
abbrev pub numbered : ℕ → List KeptThread → List (Thread Own)
numbered n [] = []
numbered n (th ∷ threads) = standing_thread n th.ended th.count th.stack ∷ numbered (suc n) threads

abbrev pub state_of : Progress → State Own
state_of p = record {
  shared = record { memory = p.scene.memory; statuses = p.sync.statuses; holders = p.sync.holders };
  threads = numbered 0 p.threads.items;
}

-- there is no state behind a step that itself stopped
abbrev pub state_unless : Bool → State Own → Option (State Own)
state_unless gone s = if gone then None else Some s

abbrev pub config_of : Progress → Config Own
config_of p = record {
  state = state_unless p.gone (state_of p);
  output = map printed_of p.output.items;
  last = p.last;
  completed = p.completed;
  verdict = p.verdict;
  about = p.about;
}

-- what steps look up, without where it is kept
abbrev pub setting_look : Setting → Look
setting_look s = record { program = s.program.now; functions = s.functions.items; globals = s.globals.items }

abbrev pub standing_of : Inside → Standing
standing_of m = record { look = setting_look m.setting; failed = m.failed; config = config_of m.progress }

-- ---- what stays true

-- The program is well-formed, there is a pointer for each of its functions and globals, and the layouts are those of
-- its types.
pub record IsSet (s : Setting) : Type 0 where
  pub well : WellFormed s.program.now
  pub functions : length s.functions.items ≡ length s.program.now.functions
  pub globals : length s.globals.items ≡ length s.program.now.globals
  pub cache : IsCacheOf s.cache s.program.now

-- the state, as long as there is one, keeps what states keep
abbrev pub IsSound : Program → Config Own → Type 0
IsSound p c = (s : State Own) → c.state ≡ Some s → SoundState p s

-- Of a machine that has failed only what its steps look up is kept; of another its state, and the limits of that.
pub record IsKept (m : Inside) : Type 0 where
  pub set : IsSet m.setting
  pub sound : m.failed ≡ false → IsSound m.setting.program.now (config_of m.progress)
  pub within : m.failed ≡ false → AreWithin (config_of m.progress)

-- where a thread stands, as it is kept; one that ended stands nowhere
abbrev pub kept_place : Option KeptThread → Option At
kept_place None = None
kept_place (Some th) = if th.ended then None else Some (at_of (frame_of th.stack.top))
