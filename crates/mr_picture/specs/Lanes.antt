-- The lanes of threads, from the step that started each to the step that ended it.
use Rattle.std.specs.Prelude.{ℕ, ◌+◌, ◌-◌, ◌==◌, ◌&&◌, Bool, false, if◌then◌else◌, List, [], ◌∷◌, ◌++◌, codes}
use Rattle.std.specs.Prelude.{decimal, Option, None, Some, slice_get}
use Rattle.mr_event.specs.Footprint.{Footprint}
use Rattle.mr_svg.specs.declared.shape.Shape.TheVariants.{Line, Words}
use Rattle.mr_svg.specs.declared.shape.Sign.TheVariants as sign
use Rattle.mr_svg.specs.Svg.{Mark}
use Rattle.mr_picture.specs.declared.scene.Drawn.{Drawn}
use Rattle.mr_picture.specs.Grid.{lane_x, row_y, rows_end}
use Rattle.mr_picture.specs.Scene.{Scene}

-- the number of the first of these steps that passes a test
abbrev pub first_that : (Drawn → Bool) → List Drawn → Option ℕ
first_that test [] = None
first_that test (step ∷ steps) = if test step then Some step.number else first_that test steps

-- whether a step started a thread
abbrev pub is_thread : ℕ → Option ℕ → Bool
is_thread thread None = false
is_thread thread (Some started) = started == thread

abbrev pub starts : ℕ → Drawn → Bool
starts thread step = is_thread thread step.started

-- whether a step ended its thread, which is this one
abbrev pub has_ended : Option Footprint → Bool
has_ended None = false
has_ended (Some foot) = foot.ended

abbrev pub ends : List Footprint → ℕ → Drawn → Bool
ends feet thread step = (step.thread == thread) && has_ended (slice_get feet step.number)

-- the row of a step, or this one where there is none
abbrev pub row_or : ℕ → ℕ → Option ℕ → ℕ
row_or from y None = y
row_or from y (Some step) = row_y from step

abbrev pub lane_start : Scene → ℕ → ℕ
lane_start s thread = row_or s.span.from 98 (first_that (starts thread) s.steps)

abbrev pub lane_end : Scene → ℕ → ℕ
lane_end s thread = row_or s.span.from (rows_end s) (first_that (ends s.sketch.feet thread) s.steps)

abbrev pub thread_word : ℕ → List ℕ
thread_word thread = codes "thread " ++ decimal thread

abbrev pub short_name : ℕ → List ℕ
short_name thread = codes "T" ++ decimal thread

-- THE LANE OF A THREAD
abbrev pub lane_mark : Scene → ℕ → Mark
lane_mark s thread =
    let x = lane_x s.threads thread in
    record {
      sign = sign.Lane;
      shape = Line (record { x = x; y = lane_start s thread }) (record { x = x; y = lane_end s thread });
      words = [];
      title = thread_word thread;
    }

-- its name, at this height
abbrev pub name_mark : Scene → ℕ → ℕ → Mark
name_mark s y thread = record {
  sign = sign.Name;
  shape = Words (record { x = lane_x s.threads thread - 8; y = y });
  words = short_name thread;
  title = thread_word thread;
}

-- the lane, with its name above it and below
abbrev pub lane_marks : Scene → ℕ → List Mark
lane_marks s thread = lane_mark s thread ∷ name_mark s 86 thread ∷ name_mark s (rows_end s + 18) thread ∷ []
