-- The races of a run without places by two orders, as they are written: race by race, those of Rust's list first.
use Rattle.std.specs.Prelude.{if◌then◌else◌, ℕ, Bool, true, false, List, [], ◌++◌, codes, decimal, drop, flat_map}
use Rattle.std.specs.Prelude.{length, Option, None, Some, slice_get, take}
use Rattle.mr_event.specs.Footprint.{Footprint}
use Rattle.mr_event.specs.declared.footprint.Pair.{Pair}
use Rattle.mr_picture.specs.Texts.{step_word}
use Rattle.mr_two_orders.specs.Pairs.{has}
use Rattle.mr_two_orders.specs.Standing.{machine_line, races_word, rust_alone}

-- the thread of a step
abbrev pub thread_text : Option Footprint → List ℕ
thread_text None = []
thread_text (Some foot) = codes ", thread " ++ decimal foot.thread

-- `step 3, thread 0`
abbrev pub step_text : List Footprint → ℕ → List ℕ
step_text run step = step_word step ++ thread_text (slice_get run step)

-- `step 3, thread 0  /  step 5, thread 1`
abbrev pub pair_line : List Footprint → Pair → List ℕ
pair_line run pair = step_text run pair.first ++ codes "  /  " ++ step_text run pair.second ++ codes "\n"

-- whether the machine's list has it too, and why not
abbrev pub bare_standing : Bool → List Footprint → List Pair → Pair → List ℕ
bare_standing told run machine pair = if has machine pair then codes "both" else rust_alone told run machine pair

-- a race of Rust's list
abbrev pub bare_rust : Bool → List Footprint → List Pair → Pair → List ℕ
bare_rust told run machine pair =
    pair_line run pair ++ codes "        " ++ bare_standing told run machine pair ++ codes "\n"

-- a race of the machine's, where Rust's list hasn't it
abbrev pub bare_machine : List Footprint → List Pair → Pair → List ℕ
bare_machine run rust pair = if has rust pair then [] else pair_line run pair ++ machine_line rust pair

-- how many races each list has
abbrev pub bare_head : ℕ → ℕ → List ℕ
bare_head rust machine =
    codes "Rust's order: " ++ races_word rust ++ codes "; the machine's: " ++ races_word machine ++ codes "\n"

-- THE RACES OF A RUN BY TWO ORDERS, without places; of the first eight of Rust's list it is told why the machine's
-- hasn't them
abbrev pub bare_orders : List Footprint → List Pair → List Pair → List ℕ
bare_orders run rust machine =
    bare_head (length rust) (length machine) ++ flat_map (bare_rust true run machine) (take 8 rust)
    ++ flat_map (bare_rust false run machine) (drop 8 rust) ++ flat_map (bare_machine run rust) machine
