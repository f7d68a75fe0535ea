-- How the ends of many runs are written, and the run of one number.
use Rattle.std.specs.Prelude.{ℕ, ◌==◌, Bool, true, false, if◌then◌else◌, List, [], ◌++◌, codes, decimal, flat_map, Option}
use Rattle.mr_ast.specs.declared.program.Program.{Program}
use Rattle.mr_base.specs.declared.reason.Verdict.{Verdict}
use Rattle.mr_base.specs.declared.reason.Verdict.TheVariants.{Running}
use Rattle.mr_event.specs.Footprint.{Footprint}
use Rattle.mr_event.specs.Predicted.{predicted}
use Rattle.mr_event.specs.declared.footprint.Pair.{Pair}
use Rattle.mr_rust_order.specs.Tests.{rust_races}
use Rattle.mr_sched.specs.declared.schedule.Schedule.{Schedule}
use Rattle.mr_auto.specs.StartRuns.{run_of, steps_of}
use Rattle.mr_auto.specs.Drawing.{drawn_schedule}
use Rattle.mr_places.specs.Laid.{Laid}
use Rattle.mr_labels.specs.declared.step.Stand.{Stand}
use Rattle.mr_listing.specs.ReportReport.{line, verdict_text}
use Rattle.mr_listing.specs.Races.{races_text}
use Rattle.mr_listing.specs.Seen.{Seen}
use Rattle.mr_listing.specs.Spots.{stand_text}
use Rattle.mr_hunt.specs.Aims.{Aim, RustRace}
use Rattle.mr_hunt.specs.declared.ends.End.{End}
use Rattle.mr_hunt.specs.declared.ends.End.TheVariants as shown
use Rattle.mr_hunt.specs.declared.counting.Row.{Row}
use Rattle.mr_replay.specs.Stands.{stands_of}

-- what texts of places are made of, for a program with its text and its places there: where the threads of the steps
-- stood, and these races
abbrev pub seen_with : List ℕ → Program → Laid → List (Option Stand) → List Pair → Seen
seen_with text p laid stands races = record {
  text = text;
  program = p;
  laid = laid;
  rows = [];
  steps = [];
  stands = stands;
  count = 0;
  feet = [];
  lines = [];
  races = races;
  verdict = Running;
  rests = [];
}

-- ---- the table

-- how many numbers, and the first of them: `once, first 75: ` or `95 times, first 0: `
abbrev pub times_text : ℕ → List ℕ
times_text count = if count == 1 then codes "once" else decimal count ++ codes " times"

abbrev pub head_text : Row → List ℕ
head_text r = times_text r.count ++ codes ", first " ++ decimal r.first ++ codes ": "

-- `verdict VERDICT`, or `race PLACE  /  PLACE`
abbrev pub end_text : Seen → End → List ℕ
end_text s (shown.Verdict v) = codes "verdict " ++ verdict_text v
end_text s (shown.Race a b) = codes "race " ++ stand_text s a ++ codes "  /  " ++ stand_text s b

abbrev pub row_line : Seen → Row → List ℕ
row_line s r = line (head_text r ++ end_text s r.end)

-- verdicts stand in part 0, races in part 1
abbrev pub part_of : End → ℕ
part_of (shown.Verdict v) = 0
part_of (shown.Race a b) = 1

-- the line of a row, where it stands in this part
abbrev pub line_in : Seen → ℕ → Row → List ℕ
line_in s part r = if part_of r.end == part then row_line s r else []

-- THE LINES OF A TABLE of so many numbers: verdicts, and then races
abbrev pub table_text : Seen → ℕ → List Row → List ℕ
table_text s count rows =
    flat_map (line_in s 0) rows ++ flat_map (line_in s 1) rows ++ line (codes "numbers " ++ decimal count)

-- ---- one number

-- whether races by Rust's order are looked for
abbrev pub asks_rust : Aim → Bool
asks_rust RustRace = true
asks_rust _ = false

-- races by their places, of steps before which the threads stood so
abbrev pub by_places : List ℕ → Program → Laid → List (Option Stand) → List Pair → List ℕ
by_places text p laid stands races = races_text (seen_with text p laid stands races)

-- the races by Rust's order of some footprints, where those are looked for
abbrev pub rust_part : List ℕ → Program → Laid → Aim → List (Option Stand) → List Footprint → List ℕ
rust_part text p laid aim stands run =
    if asks_rust aim then line (codes "by Rust's order:") ++ by_places text p laid stands (rust_races run) else []

-- races by their places, and those by Rust's order behind them
abbrev pub both_races : List ℕ → Program → Laid → Aim → List (Option Stand) → List Pair → List Footprint → List ℕ
both_races text p laid aim stands races run =
    by_places text p laid stands races ++ rust_part text p laid aim stands run

-- the races of a run by their places; by Rust's order too, where those were looked for
abbrev pub run_races : List ℕ → Program → Laid → Aim → Schedule → List ℕ
run_races text p laid aim w =
    both_races text p laid aim (stands_of p w) (predicted (steps_of p w)) (steps_of p w)

-- the command that shows the run of a number of the program in a file of this name
abbrev pub command_line : List ℕ → ℕ → ℕ → List ℕ
command_line name most number =
    line (
    codes "shown by: mirace auto " ++ name ++ codes " " ++ decimal number ++ codes " " ++ decimal most
    )

-- a number, the verdict of its run, the races of that, and the command that shows it
abbrev pub told_text : List ℕ → ℕ → ℕ → Verdict → List ℕ → List ℕ
told_text name most number v races =
    line (codes "number " ++ decimal number) ++ line (codes "verdict " ++ verdict_text v) ++ races
    ++ command_line name most number

-- THE RUN OF A NUMBER: the number, the verdict, the races by places, and the command that shows it
abbrev pub found_text : List ℕ → Program → Laid → Aim → List ℕ → ℕ → ℕ → List ℕ
found_text text p laid aim name most number =
    told_text name most number (run_of p (drawn_schedule p number most)).verdict
    (run_races text p laid aim (drawn_schedule p number most))

-- that there is none among the numbers from one to another
abbrev pub none_text : ℕ → ℕ → List ℕ
none_text from to = line (codes "numbers " ++ decimal from ++ codes " to " ++ decimal to ++ codes ": no run has it")
