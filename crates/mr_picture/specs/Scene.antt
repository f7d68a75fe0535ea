-- What is drawn of a run.
use Rattle.std.specs.Prelude.{ℕ, ◌+◌, ◌-◌, ◌<◌, ◌≤◌, ◌^◌, ◌==◌, Bool, nat_le, nat_lt, if◌then◌else◌, max, min, List, map, length}
use Rattle.std.specs.Prelude.{All, IfSome, Option, None, Some, slice_get}
use Rattle.std.specs.List.{filter, list_any, range_with_len}
use Rattle.mr_event.specs.declared.footprint.Pair.{Pair}
use Rattle.mr_picture.specs.declared.span.Span.{Span}
use Rattle.mr_picture.specs.Span.{holds_race, is_in}
use Rattle.mr_event.specs.Footprint.{Footprint}
use Rattle.mr_picture.specs.declared.scene.Drawn.{Drawn}
use Rattle.mr_picture.specs.declared.scene.Scene.{Scene as Kept}
use Rattle.mr_picture.specs.declared.scene.Sketch.{Sketch as KeptSketch}

-- ---- which steps

-- the steps from one number up to another, as far as the run has them, and no more than 500; none where the
-- other is less
abbrev pub clipped : ℕ → ℕ → ℕ → Span
clipped count from to = record {
  from = min from count;
  to = max (min from count) (min (min to count) (min from count + 500));
}

-- where the part of a long run begins that has this first race: with the run, or 400 steps before the race's second
-- step, where that is one of the first 500
abbrev pub begin_at : Option Pair → ℕ
begin_at None = 0
begin_at (Some race) = if nat_lt race.second 500 then 0 else race.second - 400

-- THE STEPS THAT ARE DRAWN of so many: those that are asked for, or else those about the first race; 500 at most
abbrev pub chosen : ℕ → List Pair → Option Span → Span
chosen count races None = clipped count (if nat_le count 500 then 0 else begin_at (slice_get races 0)) count
chosen count races (Some span) = clipped count span.from span.to

-- ---- their threads and races

-- whether a step is one of a thread
abbrev pub is_of : ℕ → Drawn → Bool
is_of thread step = step.thread == thread

-- whether a thread takes one of these steps
abbrev pub takes_one : List Drawn → ℕ → Bool
takes_one steps thread = list_any (is_of thread) steps

-- THE THREADS THAT ARE DRAWN, by rising numbers: those that take one of these steps
abbrev pub threads_of : List Drawn → List ℕ
threads_of steps = filter (takes_one steps) (range_with_len 0 1024)

-- whether the second step of a race is drawn
abbrev pub comes_to : Span → Pair → Bool
comes_to span race = is_in span race.second

-- those of these races whose second step is drawn
abbrev pub near_in : Span → List Pair → List Pair
near_in span races = filter (comes_to span) races

-- those drawn steps that completed
abbrev pub done_in : Span → ℕ → Span
done_in span completed = record { from = span.from; to = min span.to completed }

-- the first listed race, if both of its steps are drawn
abbrev pub race_in : Span → Option Pair → Option Pair
race_in done None = None
race_in done (Some race) = if holds_race done race then Some race else None

-- ---- the scene

-- a run as it is drawn: how many steps it has, the footprints of those that completed, the races that it shows, the
-- names of its threads, and the text of its end
pub record Sketch : Type 0 where
  pub count : ℕ
  pub feet : List Footprint
  pub races : List Pair
  pub names : List ℕ
  pub tail : List ℕ

-- as it is kept
abbrev pub sketch_in : KeptSketch → Sketch
sketch_in k = record {
  count = k.count;
  feet = k.feet.now;
  races = k.races.now;
  names = k.names.now;
  tail = k.tail.now;
}

-- the run; which steps are drawn, and which of them completed; what is drawn of each; their threads; the listed races
-- whose second step is drawn; and the first listed race, if it is drawn
pub record Scene : Type 0 where
  pub sketch : Sketch
  pub span : Span
  pub done : Span
  pub steps : List Drawn
  pub threads : List ℕ
  pub near : List Pair
  pub first : Option Pair

-- as it is kept
abbrev pub scene_in : Kept → Scene
scene_in k = record {
  sketch = sketch_in k.sketch.now;
  span = k.span;
  done = k.done;
  steps = k.steps.now;
  threads = k.threads.now;
  near = k.near.now;
  first = k.first;
}

-- THE SCENE of these steps of a run, of which this is drawn
abbrev pub scene_of : Sketch → Span → List Drawn → Scene
scene_of s span steps =
    let done = done_in span (length s.feet) in
    record {
      sketch = s;
      span = span;
      done = done;
      steps = steps;
      threads = threads_of steps;
      near = near_in span s.races;
      first = race_in done (slice_get s.races 0);
    }

-- ---- its size

-- a step of a run that completed
abbrev pub IsStep : Scene → ℕ → Type 0
IsStep s step = step < length s.sketch.feet

abbrev pub IsRace : Scene → Pair → Type 0
IsRace s race = IsStep s race.first × IsStep s race.second

-- a scene of a run: it has no more threads than there are, and no more steps than a run has
pub record IsSmall (s : Scene) : Type 0 where
  pub threads : length s.threads ≤ 1024
  pub to : s.span.to < 2 ^ 32
  pub feet : length s.sketch.feet < 2 ^ 32
  pub done : s.done.to ≤ length s.sketch.feet
  pub steps : All (λ step. step.number < 2 ^ 32) s.steps
  pub first : IfSome s.first (IsRace s)
