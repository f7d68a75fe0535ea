-- What a hunt looks for.
use Rattle.std.specs.Prelude.{◌≡◌, ℕ, ◌<◌, ◌≤◌, ◌==◌, ◌&&◌, ◌||◌, Bool, true, false, not, List, bytes_eq, codes, length}
use Rattle.std.specs.Prelude.{Option, None, Some}
use Rattle.std.specs.List.{find, list_any}
use Rattle.mr_ast.specs.declared.program.Program.{Program}
use Rattle.mr_base.specs.Reasons.{name_of}
use Rattle.mr_base.specs.declared.reason.Verdict.{Verdict}
use Rattle.mr_base.specs.declared.reason.Verdict.TheVariants as verdict
use Rattle.mr_event.specs.Predicted.{predicted}
use Rattle.mr_rust_order.specs.Tests.{rust_races}
use Rattle.mr_sched.specs.declared.schedule.Schedule.{Schedule}
use Rattle.mr_step.specs.PlanRuns.{Printed}
use Rattle.mr_auto.specs.StartRuns.{run_of, steps_of}
use Rattle.mr_auto.specs.Drawing.{drawn_schedule}
use Rattle.mr_labels.specs.declared.step.Stand.{Stand}
use Rattle.mr_places.specs.Laid.{Laid, spot_at}
use Rattle.mr_places.specs.declared.places.Spot.{Spot}
use Rattle.mr_hunt.specs.declared.aims.Aim.{Aim as Words}
use Rattle.mr_hunt.specs.declared.aims.Aim.TheVariants as words
use Rattle.mr_hunt.specs.declared.ends.End.{End}
use Rattle.mr_hunt.specs.declared.ends.End.TheVariants as shown
use Rattle.mr_hunt.specs.Ends.{run_ends, verdict_number}
use Rattle.mr_hunt.specs.Table.{numbers}

-- a race, or another verdict than `exit`; a race; a race by Rust's order; a verdict `undefined`; the verdict of a name,
-- or `undefined` for the reason of a name; a race between the statements at two lines; a line of output
pub data Aim : Type 0 where
  Any : Aim
  Race : Aim
  RustRace : Aim
  Undefined : Aim
  Named : (name : List ℕ) → Aim
  Lines : (one other : ℕ) → Aim
  Prints : (text : List ℕ) → Aim

-- the aim that was asked for
abbrev pub aim_of : Words → Aim
aim_of words.Any = Any
aim_of words.Race = Race
aim_of words.RustRace = RustRace
aim_of words.Undefined = Undefined
aim_of (words.Named name) = Named name.now
aim_of (words.Lines one other) = Lines one other
aim_of (words.Prints text) = Prints text.now

-- ---- verdicts

abbrev pub is_undefined : Verdict → Bool
is_undefined (verdict.Undefined reason) = true
is_undefined _ = false

-- by which name a verdict goes; an undefined one by that of its reason
abbrev pub verdict_name : Verdict → List ℕ
verdict_name verdict.Running = codes "running"
verdict_name verdict.Exit = codes "exit"
verdict_name verdict.Leak = codes "leak"
verdict_name verdict.Abort = codes "abort"
verdict_name verdict.Deadlock = codes "deadlock"
verdict_name (verdict.Undefined reason) = name_of reason

-- ---- lines

-- where a thread stands in the text, if it does
abbrev pub spot_in : Laid → Option Stand → Option Spot
spot_in laid None = None
spot_in laid (Some stand) = spot_at laid stand.function stand.block stand.at

-- whether this is on a line
abbrev pub is_on : ℕ → Option Spot → Bool
is_on line None = false
is_on line (Some spot) = spot.line == line

-- whether an end is a race between the statements at two lines
abbrev pub is_between : Laid → ℕ → ℕ → End → Bool
is_between laid one other (shown.Verdict v) = false
is_between laid one other (shown.Race a b) =
    (is_on one (spot_in laid a) && is_on other (spot_in laid b))
    || (is_on other (spot_in laid a) && is_on one (spot_in laid b))

-- ---- aims

-- whether a print is this text
abbrev pub is_print : List ℕ → Printed → Bool
is_print text line = bytes_eq line.text text

-- the same, where there is one
abbrev pub is_print_in : List ℕ → Option Printed → Bool
is_print_in text None = false
is_print_in text (Some line) = is_print text line

-- WHETHER A RUN HAS what is looked for
abbrev pub has_aim : Aim → Laid → Program → Schedule → Bool
has_aim Any laid p w =
    not (verdict_number (run_of p w).verdict == 1) || not (length (predicted (steps_of p w)) == 0)
has_aim Race laid p w = not (length (predicted (steps_of p w)) == 0)
has_aim RustRace laid p w = not (length (rust_races (steps_of p w)) == 0)
has_aim Undefined laid p w = is_undefined (run_of p w).verdict
has_aim (Named name) laid p w = bytes_eq (verdict_name (run_of p w).verdict) name
has_aim (Lines one other) laid p w = list_any (is_between laid one other) (run_ends p w)
has_aim (Prints text) laid p w = list_any (is_print text) (run_of p w).output

-- whether the run of a number has it, whose schedule is drawn with at most so many entries
abbrev pub is_met : Aim → Laid → Program → ℕ → ℕ → Bool
is_met aim laid p most number = has_aim aim laid p (drawn_schedule p number most)

-- THE FIRST OF THE NUMBERS from one to another whose run has it, where there is one
abbrev pub first_met : Aim → Laid → Program → ℕ → ℕ → ℕ → Option ℕ
first_met aim laid p most from to = find (is_met aim laid p most) (numbers from to)

-- WHAT IS FOUND among the numbers from one to another: the least that passes a test, or none passes it
abbrev pub IsFirst : (ℕ → Bool) → ℕ → ℕ → Option ℕ → Type 0
IsFirst test from to None = (n : ℕ) → from ≤ n → n ≤ to → test n ≡ false
IsFirst test from to (Some n) =
    (from ≤ n) × (n ≤ to) × (test n ≡ true) × ((m : ℕ) → from ≤ m → m < n → test m ≡ false)
