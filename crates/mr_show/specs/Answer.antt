-- What a call answers by definition: a text and a status, from the words and what the files hold.
use Rattle.std.specs.Prelude.{◌≡◌, ◌⊎◌, ℕ, ◌^◌, List, [], ◌++◌, codes, decimal, flat_map, length, map, Option, None, Some}
use Rattle.std.specs.Prelude.{if◌then◌else◌}
use Rattle.mr_ast.specs.declared.program.Program.{Program}
use Rattle.mr_io.specs.Files.{Contents}
use Rattle.mr_places.specs.GrammarParsing.{parsed}
use Rattle.mr_sched.specs.declared.schedule.Schedule.{Schedule}
use Rattle.mr_sched.specs.declared.version.Read.{Read}
use Rattle.mr_sched.specs.declared.version.Version.{Version}
use Rattle.mr_start.specs.Runs.{run_of, schedule_fault, steps_of}
use Rattle.mr_start.specs.Start.{ask_of, pieces}
use Rattle.mr_typing.specs.Walk.{faults_of}
use Rattle.mr_listing.specs.ReportReport.{line}
use Rattle.mr_input.specs.declared.refusal.Refusal.TheVariants as refusal
use Rattle.mr_input.specs.Answer.{Answer, form_or, refused, told}
use Rattle.mr_input.specs.Inputs.{denoted, schedule_in}
use Rattle.mr_answer.specs.Answers.{unless_broken}
use Rattle.mr_answer.specs.Report.{report_status}
use Rattle.mr_replay.specs.Spoken.{spoken_of}
use Rattle.mr_base.specs.declared.reached.Reached.{Reached}
use Rattle.mr_labels.specs.declared.rows.Allocation.{Allocation}
use Rattle.mr_labels.specs.declared.step.Stand.{Stand}
use Rattle.mr_labels.specs.declared.step.ToldStep.{ToldStep}
use Rattle.mr_labels.specs.Table.{start_rows, step_rows}
use Rattle.mr_replay.specs.declared.telling.Between.{Between}
use Rattle.mr_replay.specs.Stands.{stands_of}
use Rattle.mr_replay.specs.Told.{if_between, told_steps}
use Rattle.mr_picture.specs.declared.span.Span.{Span}
use Rattle.mr_listing.specs.declared.held.StepValues.{StepValues}
use Rattle.mr_json.specs.Run.{json_text}
use Rattle.mr_listing.specs.Races.{races_text}
use Rattle.mr_listing.specs.Seen.{Seen}
use Rattle.mr_listing.specs.Spoken.{spoken_line}
use Rattle.mr_listing.specs.Steps.{steps_text}
use Rattle.mr_picture.specs.Picture.{picture_text}
use Rattle.mr_picture.specs.Scene.{chosen}
use Rattle.mr_picture.specs.WayTexts.{order_text}
use Rattle.mr_rust_order.specs.Tests.{rust_races}
use Rattle.mr_two_orders.specs.Pairs.{either}
use Rattle.mr_two_orders.specs.Texts.{two_orders_text}
use Rattle.mr_event.specs.Footprint.{Footprint}
use Rattle.mr_event.specs.Predicted.{predicted}
use Rattle.mr_event.specs.declared.footprint.Pair.{Pair}
use Rattle.mr_show.specs.declared.form.Part.{Part}
use Rattle.mr_show.specs.declared.form.Part.TheVariants.{Json, Order, Picture, Races, Steps, TwoOrders}
use Rattle.mr_show.specs.declared.form.Saying.{Saying}
use Rattle.mr_show.specs.declared.form.Saying.TheVariants.{Next, OfOrder, OfRun, Witness}
use Rattle.mr_show.specs.declared.form.Telling.{Telling}
use Rattle.mr_values.specs.Values.{run_values}
use Rattle.mr_why.specs.Why.{Entry, entry_of, entry_text}
use Rattle.mr_show.specs.Filled.{order_answer, order_in}
use Rattle.mr_show.specs.Checked.{checked_file, checked_files}
use Rattle.mr_show.specs.Form.{Bare, CheckedProgram, CheckedSchedule, Form, Help, Hunted, Shown, Why}
use Rattle.mr_show.specs.Gathered.{gathered}
use Rattle.mr_show.specs.Hunted.{hunted_file}
use Rattle.mr_show.specs.Next.{next_answer}
use Rattle.mr_show.specs.Sentences.{reason_text}
use Rattle.mr_show.specs.Traced.{bare_answer, holds_trace, placed_answer, telling_of}
use Rattle.mr_show.specs.Witness.{witness_under}

-- ---- what a run tells

-- the steps that are told for a picture: those that are asked for, or all, since the first race isn't known before
abbrev pub drawn_between : Option Span → Between
drawn_between None = record { from = 0; to = 2 ^ 22 }
drawn_between (Some span) = record { from = span.from; to = span.to }

-- the steps that are told for a part, for JSON all; races and an order ask for none, but for where the
-- threads of all steps stood
abbrev pub told_for : Part → Option Between
told_for (Steps from to) = Some (record { from = from; to = to })
told_for Json = Some (record { from = 0; to = 2 ^ 22 })
told_for Races = None
told_for TwoOrders = None
told_for (Order first second) = None
told_for (Picture asked) = Some (drawn_between asked)

abbrev pub steps_in : Option Between → Program → Schedule → List ToldStep
steps_in None p w = []
steps_in (Some part) p w = flat_map (if_between part) (told_steps p w)

abbrev pub stands_in : Option Between → Program → Schedule → List (Option Stand)
stands_in None p w = stands_of p w
stands_in (Some part) p w = []

-- the allocations of the start, which got these picks
abbrev pub first_rows : Program → List ℕ → List Allocation
first_rows p picks = start_rows p (map ask_of (pieces p)) picks

-- a part tells of races alone, of which a run of one thread has none
abbrev pub IsOfRaces : Part → Type 0
IsOfRaces part = (part ≡ Races) ⊎ (part ≡ TwoOrders)

-- THE ALLOCATIONS of a run, in the order in which they are made
abbrev pub run_rows : Program → Schedule → List Allocation
run_rows p w = first_rows p w.start ++ flat_map (step_rows p) (told_steps p w)

-- the same, where steps are told
abbrev pub rows_in : Option Between → Program → Schedule → List Allocation
rows_in None p w = []
rows_in (Some part) p w = run_rows p w

-- WHAT THE RUN of the program of a text under a schedule tells for a part
abbrev pub run_seen : Part → List ℕ → Program → Schedule → Seen
run_seen part text p w =
    gathered text p (run_of p w) (length w.entries) (rows_in (told_for part) p w) (steps_in (told_for part) p w)
    (stands_in (told_for part) p w) (steps_of p w)

-- the steps of a picture as a part
abbrev pub drawn_part : Span → Between
drawn_part span = record { from = span.from; to = span.to }

-- which steps of a run of so many, with these races, are told with values for a part: those of a picture that it has
abbrev pub valued_part : Part → ℕ → List Pair → Option Between
valued_part (Steps from to) count races = Some (record { from = from; to = to })
valued_part Json count races = Some (record { from = 0; to = 2 ^ 22 })
valued_part Races count races = None
valued_part TwoOrders count races = None
valued_part (Order first second) count races = None
valued_part (Picture asked) count races = Some (drawn_part (chosen count races asked))

abbrev pub values_in : Option Between → Program → Schedule → List Allocation → List Footprint → List StepValues
values_in None p w rows feet = []
values_in (Some part) p w rows feet = run_values p w rows feet part

-- what the accesses of a run loaded and stored that has these allocations and footprints, where a part tells it
abbrev pub part_values : Part → Program → Schedule → List Allocation → List Footprint → List StepValues
part_values part p w rows feet =
    values_in (valued_part part (length w.entries) (predicted feet)) p w rows feet

abbrev pub told_values : Part → Program → Schedule → List StepValues
told_values part p w = part_values part p w (rows_in (told_for part) p w) (steps_of p w)

-- ---- what is said of it

-- the text of a part; that of steps tells values, and ends with the reason of an undefined run and with what it speaks
-- of
abbrev pub part_text : Part → Option Reached → List StepValues → Seen → List ℕ
part_text (Steps from to) spoken values s = steps_text s values ++ reason_text s.verdict ++ spoken_line s spoken
part_text Json spoken values s = json_text s values
part_text Races spoken values s = races_text s
part_text TwoOrders spoken values s = two_orders_text s
part_text (Order first second) spoken values s = order_text s first second
part_text (Picture asked) spoken values s = picture_text s values asked

-- the races by Rust's order, where a part tells of them
abbrev pub rust_of : Part → List Footprint → List Pair
rust_of (Steps from to) feet = []
rust_of Json feet = []
rust_of Races feet = []
rust_of TwoOrders feet = rust_races feet
rust_of (Order first second) feet = []
rust_of (Picture asked) feet = []

-- with the status that the report of the run has, or that of races where Rust's order has some
abbrev pub part_answer : Part → Option Reached → List StepValues → Seen → Answer
part_answer part spoken values s = record {
  text = part_text part spoken values s;
  status = report_status s.verdict (either (rust_of part s.feet) s.races);
}

-- the same of the run under a schedule whose text is in a version, or the first rule that the schedule breaks, on its
-- line of that text
abbrev pub ran_answer : Part → List ℕ → Program → Version → Schedule → Answer
ran_answer part text p v w =
    told (part_answer part (spoken_of p w) (told_values part p w))
    (unless_broken v w (schedule_fault p w) (run_seen part text p w))

-- WHAT IS SAID of the run of the program of a text under the schedule in a file, or of what the order there becomes; or
-- what refuses the file
abbrev pub ran_under : Part → List ℕ → Program → Read → Answer
ran_under part text p r = ran_answer part text p r.version r.schedule

abbrev pub next_under : List ℕ → Program → Read → Answer
next_under text p r = next_answer text p r.version r.schedule

abbrev pub answer_under : Saying → List ℕ → Option (List ℕ) → Program → Answer
answer_under (OfRun part) text file p = told (ran_under part text p) (schedule_in file)
answer_under Next text file p = told (next_under text p) (schedule_in file)
answer_under (OfOrder filling) text file p = told (order_answer filling p) (order_in file)
answer_under (Witness step selection) text file p = told (witness_under step selection p) (schedule_in file)

-- the same, where the program breaks no rule
abbrev pub program_answer : Saying → List ℕ → Option (List ℕ) → Program → Answer
program_answer saying text file p = form_or p (faults_of p) (answer_under saying text file p)

-- the same of the program that a text denotes, or the text's first fault
abbrev pub text_answer : Saying → Option (List ℕ) → List ℕ → Answer
text_answer saying file text = told (program_answer saying text file) (denoted (parsed text))

-- the same of the text in a file
abbrev pub file_answer : Saying → Option (List ℕ) → Option (List ℕ) → Answer
file_answer saying schedule None = refused refusal.ReadProgram
file_answer saying schedule (Some text) = text_answer saying schedule text

-- ---- a file that may hold a trace

-- the same of the bytes of a file, which are a trace or the text of a program, where a trace may tell something
abbrev pub bytes_answer : Option Telling → Saying → Option (List ℕ) → List ℕ → Answer
bytes_answer None saying second bytes = text_answer saying second bytes
bytes_answer (Some what) saying second bytes =
    if holds_trace bytes then placed_answer what bytes second else text_answer saying second bytes

-- WHAT IS SAID OF TWO FILES: of the run of a program under a schedule, or of a trace at its places
abbrev pub shown_answer : Saying → Option (List ℕ) → Option (List ℕ) → Answer
shown_answer saying second None = refused refusal.ReadProgram
shown_answer saying second (Some bytes) = bytes_answer (telling_of saying) saying second bytes

-- ---- the answer

-- help
abbrev pub help_answer : List ℕ → Answer
help_answer text = record { text = text; status = 0 }

-- what is said of an entry of the table of codes
abbrev pub said_answer : Entry → Answer
said_answer entry = record { text = entry_text entry; status = 0 }

-- that a number is no code
abbrev pub unsaid_answer : ℕ → Answer
unsaid_answer code = record {
  text = line (codes "no rule, no fault and no reason has the number " ++ decimal code);
  status = 1;
}

-- what is said of a code, or that it is none
abbrev pub why_answer : ℕ → Option Entry → Answer
why_answer code None = unsaid_answer code
why_answer code (Some entry) = said_answer entry

-- what words of no form are told
abbrev pub usage : Answer
usage = record {
  text = line (
      codes "usage: steps P S [FIRST LAST] | json P S | races P S | rust P S | "
      ++ codes "picture P S [FIRST LAST] | "
      ++ codes "order P S FIRST LAST | witness P S J [short] | "
      ++ codes "races T PLACES | rust T [PLACES] | steps T PLACES [FIRST LAST] | "
      ++ codes "steps T FIRST LAST | picture T PLACES [FIRST LAST] | "
      ++ codes "next P S | check P [S] | fill P O | halt P O | hunt P FROM TO M [AIM] | draw P N M | why CODE | --help"
      );
  status = 2;
}

-- THE ANSWER to a form over these files; words of no form are told the usage
abbrev pub answer_of : Contents → Option Form → Answer
answer_of files None = usage
answer_of files (Some (Shown saying program schedule)) = shown_answer saying (files schedule) (files program)
answer_of files (Some (Hunted range seek name program)) = hunted_file range seek name (files program)
answer_of files (Some (Bare alone trace)) = bare_answer alone (files trace)
answer_of files (Some (CheckedProgram name program)) = checked_file name (files program)
answer_of files (Some (CheckedSchedule name schedule_name program schedule)) =
    checked_files name schedule_name (files program) (files schedule)
answer_of files (Some (Why code)) = why_answer code (entry_of code)
answer_of files (Some (Help text)) = help_answer text
