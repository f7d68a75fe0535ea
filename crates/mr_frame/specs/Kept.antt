-- What the code keeps of frames and stacks, without where it lies.
use Rattle.std.specs.Prelude.{◌≡◌, List, [], ◌∷◌, length, map, reverse}
use Rattle.mr_layout.specs.Cached.{IsCacheOf}
use Rattle.mr_typing.specs.Walk.{WellFormed}
use Rattle.mr_frame.specs.declared.flow.Flow.{Flow}
use Rattle.mr_frame.specs.declared.flow.Flow.TheVariants as flow
use Rattle.mr_frame.specs.declared.frame.Frame.{Frame as KeptFrame}
use Rattle.mr_frame.specs.declared.look.Look.{Look as KeptLook}
use Rattle.mr_frame.specs.declared.stack.Stack.{Stack as KeptStack}
use Rattle.mr_frame.specs.Frames.{Aborts, EndsThread, Exits, Frame, GoesOn, Look, Onward, Stack}

-- a frame without where its locals are kept
abbrev pub frame_of : KeptFrame → Frame
frame_of f = record { function = f.function; locals = f.locals.items; block = f.block; at = f.at; call = f.call }

-- the frames below the top one, which are kept from the bottom on
abbrev pub below_of : KeptStack → List Frame
below_of s = map frame_of (reverse s.below.items)

-- a stack, whose payloads are kept from the first on
abbrev pub stack_of : KeptStack → Stack
stack_of s = record { frames = frame_of s.top ∷ below_of s; payloads = reverse s.payloads.items }

-- what steps look up, without where it is kept
abbrev pub look_of : KeptLook → Look
look_of l = record { program = l.program.now; functions = l.functions.now; globals = l.globals.now }

-- how a thread with this stack goes on; a thread that ended has no frame
abbrev pub onward_of : Flow → Stack → Onward
onward_of flow.Went s = GoesOn s
onward_of flow.Ended s = EndsThread (record s { frames = [] })
onward_of flow.Exit s = Exits
onward_of flow.Abort s = Aborts

-- The program is well-formed, there is a pointer for each of its functions and globals, and the layouts are those of
-- its types.
pub record IsReady (l : KeptLook) : Type 0 where
  pub well : WellFormed l.program.now
  pub functions : length l.functions.now ≡ length l.program.now.functions
  pub globals : length l.globals.now ≡ length l.program.now.globals
  pub cache : IsCacheOf l.cache.now l.program.now
