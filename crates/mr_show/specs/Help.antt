-- The texts of help.
use Rattle.std.specs.Prelude.{ℕ, List, [], ◌∷◌, ◌++◌, codes, Option}
use Rattle.mr_ast.specs.Words.{Table, looked_up}
use Rattle.mr_listing.specs.ReportReport.{line}

-- with all forms
unfoldable pub help_with_all : List ℕ
help_with_all =
    line (codes "mirace_show steps P S [FIRST LAST]   the steps of a run, each at its place in the program's text")
    ++ line (codes "mirace_show json P S                 a run as JSON, for tools")
    ++ line (codes "mirace_show races P S                the races of a run by pairs of places")
    ++ line (codes "mirace_show picture P S [FIRST LAST] a picture of a run, as an SVG document")
    ++ line (codes "mirace_show order P S FIRST LAST     how two steps of a run are ordered, edge by edge")
    ++ line (codes "mirace_show witness P S J [short]    a schedule that shows the race of step J")
    ++ line (
    codes "mirace_show rust P S                 the races of a run by Rust's own order "
    ++ codes "beside those by the machine's"
    )
    ++ line (codes "mirace_show races T PLACES           the races of a trace by pairs of places")
    ++ line (codes "mirace_show rust T [PLACES]          the same of a trace; without PLACES race by race")
    ++ line (
    codes "mirace_show steps T PLACES           the steps of a trace, each at its place; "
    ++ codes "FIRST LAST may stand behind it"
    )
    ++ line (codes "mirace_show steps T FIRST LAST       steps of a trace, without places")
    ++ line (codes "mirace_show picture T PLACES         a picture of a trace; FIRST LAST may stand behind it")
    ++ line (
    codes "mirace_show next P S                 what each thread would do next, or the "
    ++ codes "entry that breaks a rule"
    )
    ++ line (
    codes "mirace_show check P [S]              the first fault of a program, or of a "
    ++ codes "schedule of it, at its line"
    )
    ++ line (codes "mirace_show fill P O                 the schedule that an order of threads becomes")
    ++ line (codes "mirace_show halt P O                 where that order can't go on")
    ++ line (
    codes "mirace_show hunt P FROM TO M [AIM]   how many drawn runs end in each way, or the "
    ++ codes "first that has AIM"
    )
    ++ line (codes "mirace_show draw P N M               the schedule of at most M entries that is drawn from number N")
    ++ line (codes "mirace_show why CODE                 what is said of a code of a rule, a fault or a reason")
    ++ line (
    codes "P is the file of a program, S that of a schedule, O that of an order, T that of "
    ++ codes "a trace, and PLACES that"
    )
    ++ line (codes "of the places of its steps.")
    ++ line (
    codes "With --help behind one of the words steps, json, races, rust, picture, order, witness, "
    ++ codes "next, check, fill, halt,"
    )
    ++ line (codes "hunt, draw and why it tells more.")

abbrev pub steps_help : List ℕ
steps_help =
    line (codes "mirace_show steps P S [FIRST LAST]")
    ++ line (
    codes "Runs the program in file P under the schedule in file S, and writes a line for "
    ++ codes "each step: its number,"
    )
    ++ line (
    codes "its thread, the line and the column in P, the function, the block and the "
    ++ codes "statement. Below it stand what"
    )
    ++ line (
    codes "it printed, what it did to locks and threads, what it loaded and stored, and "
    ++ codes "the steps with which it"
    )
    ++ line (codes "races. At the end stand the verdict, how many races there are, how the threads stand where no step")
    ++ line (codes "stopped the run, which blocks a leak has left, for which reason a run is undefined, and of which")
    ++ line (codes "allocation that reason speaks. With FIRST and LAST only those steps are written.")
    ++ line (codes "mirace_show steps T PLACES [FIRST LAST] | steps T FIRST LAST")
    ++ line (
    codes "Writes a line for each step of the trace in file T, which begins with MRTR: its "
    ++ codes "number, its thread, and the"
    )
    ++ line (
    codes "place and the variable that file PLACES tells of it. Below it stand what it did "
    ++ codes "to locks and threads, what"
    )
    ++ line (
    codes "it loaded and stored, and the steps with which it races. At the end stands how "
    ++ codes "many races there are."
    )

abbrev pub json_help : List ℕ
json_help =
    line (codes "mirace_show json P S")
    ++ line (
    codes "Runs the program in file P under the schedule in file S, and writes the run as "
    ++ codes "one JSON object on a line:"
    )
    ++ line (
    codes "what it printed, its steps with their places and what they did, loaded and "
    ++ codes "stored, its races with the"
    )
    ++ line (codes "places of their two steps, and its verdict. docs/run.schema.json says which form it has.")

abbrev pub races_help : List ℕ
races_help =
    line (codes "mirace_show races P S")
    ++ line (
    codes "Runs the program in file P under the schedule in file S, and writes a line for "
    ++ codes "each two places of P at"
    )
    ++ line (
    codes "which steps race, those with most races first, with how many races there are "
    ++ codes "and the steps of the first."
    )
    ++ line (codes "mirace_show races T PLACES")
    ++ line (
    codes "Writes the same of the trace in file T, which begins with MRTR, by the places "
    ++ codes "that file PLACES tells of its"
    )
    ++ line (
    codes "steps. Below each two places stand the two steps of the first race, with what "
    ++ codes "they loaded and stored."
    )

abbrev pub rust_help : List ℕ
rust_help =
    line (codes "mirace_show rust P S")
    ++ line (
    codes "Runs the program in file P under the schedule in file S, and writes a line for "
    ++ codes "each two places of P at"
    )
    ++ line (
    codes "which steps race by Rust's own order or by the machine's: those of Rust's list "
    ++ codes "first. Below it stands which"
    )
    ++ line (
    codes "list has races there, and where one has none why: in which order the two steps "
    ++ codes "are, and by which other"
    )
    ++ line (codes "two, or with which later step that list has the second one.")
    ++ line (codes "mirace_show rust T [PLACES]")
    ++ line (
    codes "Writes the same of the trace in file T, which begins with MRTR, by the places "
    ++ codes "that file PLACES tells of its"
    )
    ++ line (
    codes "steps, with the two steps of the first race; and without PLACES each race by its "
    ++ codes "steps and threads."
    )

abbrev pub picture_help : List ℕ
picture_help =
    line (codes "mirace_show picture P S [FIRST LAST]")
    ++ line (
    codes "Runs the program in file P under the schedule in file S, and writes a picture of "
    ++ codes "the run as an SVG document:"
    )
    ++ line (
    codes "a lane for each thread, its steps from above to below, arrows for what happens "
    ++ codes "before what, and the races."
    )
    ++ line (codes "With FIRST and LAST those steps are drawn, and else those about the first race; 500 at most.")
    ++ line (codes "mirace_show picture T PLACES [FIRST LAST]")
    ++ line (
    codes "Draws the same of the trace in file T, which begins with MRTR, each step at the "
    ++ codes "place that file PLACES tells."
    )

abbrev pub next_help : List ℕ
next_help =
    line (codes "mirace_show next P S")
    ++ line (
    codes "Runs the program in file P under the schedule in file S, up to its end or to "
    ++ codes "the first entry that breaks a"
    )
    ++ line (
    codes "rule. Of such an entry it writes the rule, the picks, and the one by which the "
    ++ codes "rule is broken. Behind that"
    )
    ++ line (
    codes "stands of each thread where it is, whether it can go on, what its next step "
    ++ codes "asks for, and what it waits for."
    )

abbrev pub check_help : List ℕ
check_help =
    line (codes "mirace_show check P [S]")
    ++ line (
    codes "Tells the first fault of the program in file P, or the first rule that it breaks: "
    ++ codes "the file, the line and the"
    )
    ++ line (
    codes "column, what the code says, and the line itself with a caret. Of a text it tells "
    ++ codes "what stands there, and where"
    )
    ++ line (
    codes "that doesn't fit, each word that may stand there; of a rule the function and the "
    ++ codes "block. Of a program that"
    )
    ++ line (
    codes "breaks no rule it says so, or with S tells the same of the schedule in file S: of "
    ++ codes "an entry its thread and its"
    )
    ++ line (codes "picks, and how many entries there are where it breaks no rule.")

abbrev pub fill_help : List ℕ
fill_help =
    line (codes "mirace_show fill P O | halt P O")
    ++ line (
    codes "Writes the schedule of the program in file P whose steps are of the threads of "
    ++ codes "the order in file O, with"
    )
    ++ line (
    codes "addresses that are found for it. An order is numbers of threads between blanks "
    ++ codes "and line ends: T is a turn"
    )
    ++ line (
    codes "of thread T, T*N so many, and in T>W thread W gets the lock that the step gives "
    ++ codes "up. A # begins a comment."
    )
    ++ line (
    codes "The schedule ends where the order can't go on. Then the status is 1, and "
    ++ codes "halt with the same files tells the"
    )
    ++ line (codes "line of the order and the rule that its turn would break.")

abbrev pub hunt_help : List ℕ
hunt_help =
    line (codes "mirace_show hunt P FROM TO M [AIM]")
    ++ line (
    codes "Draws a schedule of at most M entries for the program in file P from each number "
    ++ codes "from FROM to TO, as mirace"
    )
    ++ line (
    codes "auto does, and runs it. Writes a line for each verdict and for each two places "
    ++ codes "that race: how many numbers"
    )
    ++ line (
    codes "have it, and the first. With AIM it stops at the first number whose run has it, "
    ++ codes "with status 1, and tells it."
    )
    ++ line (
    codes "AIM is any, race, rust for a race by Rust's own order, undefined, the name of "
    ++ codes "another verdict or of a reason,"
    )
    ++ line (codes "prints TEXT, or two lines of P.")
    ++ line (codes "mirace_show draw P N M")
    ++ line (codes "Writes the schedule that is drawn from number N alone, with at most M entries.")

abbrev pub order_help : List ℕ
order_help =
    line (codes "mirace_show order P S FIRST LAST")
    ++ line (
    codes "Runs the program in file P under the schedule in file S, and writes the way from "
    ++ codes "step FIRST to the later"
    )
    ++ line (
    codes "step LAST: step after step, each behind the one before it for the reason that "
    ++ codes "is told: they are of one"
    )
    ++ line (
    codes "thread, a thread was woken or started, or by a lock, a join, an allocation or "
    ++ codes "what they load and store. Or"
    )
    ++ line (codes "it says that nothing orders the two.")

abbrev pub witness_help : List ℕ
witness_help =
    line (codes "mirace_show witness P S J [short]")
    ++ line (
    codes "Runs the program in file P under the schedule in file S, and writes a schedule "
    ++ codes "that brings the machine to"
    )
    ++ line (
    codes "step J and the step with which it races, side by side, where it reports the data "
    ++ codes "race. With short the"
    )
    ++ line (
    codes "schedule has only the entries that the two steps need. Or it says that step J "
    ++ codes "races with no earlier step, or"
    )
    ++ line (codes "that an earlier race is in its way.")

abbrev pub why_help : List ℕ
why_help =
    line (codes "mirace_show why CODE")
    ++ line (
    codes "Writes what is said of the rule, the fault or the reason of undefined behaviour "
    ++ codes "that has this number, or is"
    )
    ++ line (
    codes "the first with this name: its name, a sentence, what usually causes it, what to "
    ++ codes "do next, and the smallest example."
    )

-- the words behind which help is asked for, each with the text of its form
abbrev pub help_texts : Table (List ℕ)
help_texts =
    (codes "steps", steps_help) ∷ (codes "json", json_help) ∷ (codes "races", races_help) ∷ (codes "rust", rust_help)
    ∷ (codes "picture", picture_help) ∷ (codes "next", next_help) ∷ (codes "check", check_help)
    ∷ (codes "fill", fill_help) ∷ (codes "halt", fill_help) ∷ (codes "hunt", hunt_help) ∷ (codes "draw", hunt_help)
    ∷ (codes "order", order_help) ∷ (codes "witness", witness_help) ∷ (codes "why", why_help) ∷ []

-- HELP WITH THE FORM of a word
unfoldable pub help_with : List ℕ → Option (List ℕ)
help_with word = looked_up help_texts word
