-- How the code reads an order.
use Rattle.std.specs.Prelude.{ℕ, ◌==◌, if◌then◌else◌, List, [], length, Option, None, Some, Result, Ok}
use Rattle.std.specs.List.{slice_split}
use Rattle.mr_sched.specs.Reading.{Fault}
use Rattle.mr_fill.specs.Orders.{is_blank, word_then}
use Rattle.mr_fill.specs.declared.order.Turn.{Turn}

-- the parts of what follows a blank, if anything does
abbrev pub blank_parts : Option (List ℕ) → List (List ℕ)
blank_parts None = []
blank_parts (Some text) = slice_split is_blank text

-- the turns so far and those of a word behind them; an empty one spells nothing
abbrev pub word_or_none : List Turn → ℕ → List ℕ → Result (List Turn) Fault
word_or_none front line word = if length word == 0 then Ok front else word_then front line word
