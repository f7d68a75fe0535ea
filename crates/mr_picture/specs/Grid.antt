-- Where marks stand: on a grid of whole numbers, so that nothing overlaps.
use Rattle.std.specs.Prelude.{ℕ, ◌+◌, ◌-◌, ◌*◌, ◌==◌, Bool, nat_lt, min, count_by, List, length, Option, None, Some}
use Rattle.mr_event.specs.declared.footprint.Pair.{Pair}
use Rattle.mr_svg.specs.declared.shape.Point.{Point}
use Rattle.mr_picture.specs.Scene.{Scene}

-- the lane of a thread: behind those of the drawn threads with smaller numbers, 40 apart
abbrev pub lane_x : List ℕ → ℕ → ℕ
lane_x threads thread = 80 + 40 * count_by (λ t. nat_lt t thread) threads

-- the row of a step: below those of the drawn steps before it, 44 apart
abbrev pub row_y : ℕ → ℕ → ℕ
row_y from step = 120 + 44 * (step - from)

-- where a step of a thread stands
abbrev pub place_of : Scene → ℕ → ℕ → Point
place_of s thread step = record { x = lane_x s.threads thread; y = row_y s.span.from step }

-- where the texts of steps begin, behind the lanes
abbrev pub text_x : Scene → ℕ
text_x s = 80 + 40 * length s.threads

-- where the witness's column begins, behind the texts
abbrev pub column_x : Scene → ℕ
column_x s = text_x s + 520

-- how wide that is, if there is one
abbrev pub column_width : ℕ → Option Pair → ℕ
column_width threads None = 0
column_width threads (Some race) = 96 + 20 * threads

abbrev pub width : Scene → ℕ
width s = column_x s + column_width (length s.threads) s.first

-- where the rows end
abbrev pub rows_end : Scene → ℕ
rows_end s = 98 + 44 * (s.span.to - s.span.from)

-- whether a byte ends a line
abbrev pub is_line_end : ℕ → Bool
is_line_end b = b == 10

-- how many lines of the run's end are drawn
abbrev pub tail_count : Scene → ℕ
tail_count s = min (count_by is_line_end s.sketch.tail) 40

-- a line of the run's end
abbrev pub tail_y : Scene → ℕ → ℕ
tail_y s n = rows_end s + 44 + 20 * n

-- a row of the legend
abbrev pub legend_y : Scene → ℕ → ℕ
legend_y s n = tail_y s (tail_count s) + 20 + 22 * n
