-- What the turn of a thread leads to.
use Rattle.std.specs.Prelude.{◌≡◌, ℕ, ◌<◌, ◌^◌, false, length, Option, Some, if◌then◌else◌, slice_get}
use Rattle.std.specs.Option.{option_map}
use Rattle.mr_base.specs.declared.reason.Reason.TheVariants.{DataRace}
use Rattle.mr_base.specs.declared.reason.Verdict.{Verdict}
use Rattle.mr_base.specs.declared.reason.Verdict.TheVariants as verdict
use Rattle.mr_event.specs.Footprint.{Footprint}
use Rattle.mr_sync.specs.Tables.{Tables, is_any_enabled}
use Rattle.mr_eval.specs.World.{tally_of}
use Rattle.mr_eval.specs.declared.scene.Scene.{Scene}
use Rattle.mr_plan.specs.Machine.{Bare, State, settle}
use Rattle.mr_plan.specs.Notes.{Notes, accesses_in, event_of}
use Rattle.mr_plan.specs.Runs.{Config, after_bare, races_with}
use Rattle.mr_frame.specs.declared.flow.Flow.{Flow}
use Rattle.mr_frame.specs.declared.flow.Flow.TheVariants as flow
use Rattle.mr_frame.specs.declared.stack.Stack.{Stack as KeptStack}
use Rattle.mr_frame.specs.Frames.{Look}
use Rattle.mr_exchange.specs.StartSteps.{Own, thread_step}
use Rattle.mr_turn.specs.declared.deed.Deed.{Deed}
use Rattle.mr_turn.specs.Turning.{is_end, own_of, printed_lines, shared_in, turn_by}
use Rattle.mr_step.specs.declared.progress.Progress.{Progress}
use Rattle.mr_step.specs.declared.progress.Thread.{Thread as KeptThread}
use Rattle.mr_step.specs.Kept.{config_of, state_of}

-- the scene of a turn, once its accesses are all that the step has in the edition
abbrev pub completed : ℕ → Scene → Scene
completed edition s = record s { notes = record s.notes { accesses = accesses_in edition s.memory (tally_of s) } }

-- the footprint of a turn, whose scene has all accesses of the step
abbrev pub foot_by : Scene → Deed → Footprint
foot_by s d = record {
  thread = s.thread;
  accesses = s.notes.accesses;
  allocated = s.made;
  freed = s.freed;
  touched = s.notes.touched;
  event = d.event;
  ended = is_end d.flow;
  woken = d.woken.items;
}

-- the verdict behind a completed step with this footprint, by the footprint of the step before and the tables
abbrev pub verdict_in : Option Footprint → Footprint → Tables → Verdict
verdict_in last f x =
    if races_with f last then verdict.Undefined DataRace
    else (if is_any_enabled x then verdict.Running else verdict.Deadlock)

-- the notes tell what the scene and the deed have
pub record Tells (s : Scene) (d : Deed) (n : Notes) : Type 0 where
  pub tally : n.tally ≡ tally_of s
  pub event : event_of n.events ≡ d.event
  pub ended : n.ended ≡ is_end d.flow
  pub woken : n.woken ≡ d.woken.items
  pub printed : n.printed ≡ printed_lines (option_map (λ text. text.items) d.text)

-- what the turn of thread t comes to, with this stack and these tables behind it
abbrev pub bare_by : State Own → ℕ → KeptStack → Tables → Scene → Deed → Notes → Bare Own
bare_by s t stack x scene d n =
    settle s t
    (turn_by d.flow (own_of t stack) stack (option_map (own_of (length s.threads)) d.started))
    (shared_in scene x, n)

-- where a bare step leads
abbrev pub LeadsTo : Look → Bare Own → Config Own → Config Own → Type 0
LeadsTo look b old new = new ≡ after_bare (thread_step look) old b

-- the thread goes on, or has ended
abbrev pub IsOn : Flow → Type 0
IsOn flow.Went = Unit {0}
IsOn flow.Ended = Unit {0}
IsOn flow.Exit = ⊥
IsOn flow.Abort = ⊥

-- there is a state in which thread t stands, and fewer than 2^32 steps were completed
pub record CanSettle (p : Progress) (t : ℕ) : Type 0 where
  pub thread : t < length p.threads.items
  pub there : p.gone ≡ false
  pub steps : p.completed < 2 ^ 32

-- the turn of thread t, which left its scene and this deed, and whose new stack already stands in its place, leads from
-- old to new
abbrev pub Settles : Look → Progress → Progress → ℕ → Deed → Type 0
Settles look old new t d =
    (th : KeptThread) (n : Notes) → slice_get old.threads.items t ≡ Some th → Tells old.scene d n
    → LeadsTo look (bare_by (state_of old) t th.stack old.sync old.scene d n) (config_of old) (config_of new)
