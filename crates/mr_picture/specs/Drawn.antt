-- What is drawn of the run of a program.
use Rattle.std.specs.Prelude.{◌≡◌, ℕ, Bool, List, [], ◌++◌, codes, decimal, flat_map, map, Option, None, Some, slice_get}
use Rattle.std.specs.List.{filter}
use Rattle.mr_labels.specs.declared.step.Stand.{Stand}
use Rattle.mr_labels.specs.declared.step.ToldStep.{ToldStep}
use Rattle.mr_labels.specs.Words.{function_word}
use Rattle.mr_listing.specs.Seen.{Seen}
use Rattle.mr_listing.specs.declared.held.StepValues.{StepValues}
use Rattle.mr_listing.specs.Spots.{stand_text}
use Rattle.mr_listing.specs.Steps.{steps_text}
use Rattle.mr_picture.specs.declared.scene.Drawn.{Drawn}
use Rattle.mr_picture.specs.declared.span.Span.{Span}
use Rattle.mr_picture.specs.Deeds.{deeds}
use Rattle.mr_picture.specs.Scene.{Scene, Sketch, chosen, scene_of}
use Rattle.mr_picture.specs.Span.{is_in}

-- what is told of a run behind its steps
abbrev pub tail_of : Seen → List ℕ
tail_of s = steps_text (record s { steps = [] }) []

-- a thread, behind the one before, with the function with which it began
abbrev pub name_of : Seen → ℕ → ℕ → List ℕ
name_of s thread function = codes ", T" ++ decimal thread ++ codes " " ++ function_word s.program function

-- the thread that a step started, if it started one: where it stands behind that step, it has not taken one yet
abbrev pub started_name : Seen → Option Stand → List ℕ
started_name s None = []
started_name s (Some stand) = name_of s stand.thread stand.function

abbrev pub told_name : Seen → ToldStep → List ℕ
told_name s told = started_name s told.started

-- THE NAMES OF THE THREADS, each with its function: of the main thread, and of those that the told steps started
abbrev pub names_of : Seen → List ℕ
names_of s =
    codes "T0 " ++ function_word s.program s.program.start.0 ++ flat_map (told_name s) s.steps

-- a text that stands in another one
abbrev pub StandsIn : List ℕ → List ℕ → Type 0
StandsIn piece text = (before : List ℕ) × (behind : List ℕ) × (text ≡ before ++ piece ++ behind)

-- a run as it is drawn
abbrev pub sketch_of : Seen → Sketch
sketch_of s = record { count = s.count; feet = s.feet; races = s.races; names = names_of s; tail = tail_of s }

-- the thread that stands there
abbrev pub thread_of : Option Stand → Option ℕ
thread_of None = None
thread_of (Some stand) = Some stand.thread

-- what is drawn of a step of a run with these values
abbrev pub drawn_of : Seen → List StepValues → ToldStep → Drawn
drawn_of s values told = record {
  number = told.number;
  thread = told.thread;
  started = thread_of told.started;
  stand = stand_text s told.before;
  did = deeds s (slice_get values told.number) told;
}

-- whether a step is drawn
abbrev pub is_drawn : Span → ToldStep → Bool
is_drawn span told = is_in span told.number

-- what is drawn of those of these steps that are
abbrev pub drawn_steps : Seen → List StepValues → Span → List ToldStep → List Drawn
drawn_steps s values span steps = map (drawn_of s values) (filter (is_drawn span) steps)

-- these steps of a run
abbrev pub span_scene : Seen → List StepValues → Span → Scene
span_scene s values span = scene_of (sketch_of s) span (drawn_steps s values span s.steps)

-- THE SCENE of those steps of a run that are asked for or, without any, of those about the first race
abbrev pub asked_scene : Seen → List StepValues → Option Span → Scene
asked_scene s values asked = span_scene s values (chosen s.count s.races asked)
