-- The words behind the program's name.
use Rattle.std.specs.Prelude.{ℕ, ◌+◌, ◌-◌, ◌^◌, ◌==◌, ◌||◌, Bool, false, nat_le, List, [], ◌∷◌, Option, None, Some, bytes_eq}
use Rattle.std.specs.Prelude.{codes}
use Rattle.std.specs.Prelude.{if◌then◌else◌}
use Rattle.std.specs.List.{find, list_any, range_with_len}
use Rattle.std.specs.Option.{option_map}
use Rattle.mr_picture.specs.declared.span.Span.{Span}
use Rattle.mr_hunt.specs.Aims.{Aim, Any, Lines, Named, Prints, Race, RustRace, Undefined}
use Rattle.mr_input.specs.Numbers.{number_below}
use Rattle.mr_why.specs.Why.{Entry, entry_of}
use Rattle.mr_run.specs.declared.witnesses.Selection.{Selection}
use Rattle.mr_run.specs.declared.witnesses.Selection.TheVariants.{Kept, Needed}
use Rattle.mr_show.specs.declared.form.Form.{Form as Words}
use Rattle.mr_show.specs.declared.form.Form.TheVariants as words
use Rattle.mr_show.specs.declared.form.Part.{Part}
use Rattle.mr_show.specs.declared.form.Part.TheVariants.{Json, Order, Picture, Races, Steps, TwoOrders}
use Rattle.mr_show.specs.declared.form.Alone.{Alone}
use Rattle.mr_show.specs.declared.form.Alone.TheVariants as alone
use Rattle.mr_show.specs.declared.form.Range.{Range}
use Rattle.mr_show.specs.Help.{help_with, help_with_all}
use Rattle.mr_show.specs.Seek.{Drawn, Seek, seek_of, seeking}
use Rattle.mr_show.specs.declared.form.Saying.{Saying}
use Rattle.mr_show.specs.declared.form.Saying.TheVariants.{Next, OfOrder, OfRun, Witness}
use Rattle.mr_show.specs.declared.form.Filling.TheVariants.{Halt, Schedule}

-- What is asked for: what is said of the run of the program in one file under the schedule in another, which is a part
-- of it, its steps from one number up to another, all of it as JSON, its races by pairs of places, also by two orders,
-- or a picture of it, or how it can go on, or the schedule that shows the race of a step; or what the order in another
-- becomes, which is a schedule, or where it can't go on; which ends the runs of some numbers have, or the first of
-- these runs that has what is looked for, or the schedule of a number; the steps of a trace; what refuses the program
-- in a file, or a schedule of it in another, told by the names of the files; what is said of a code; or help.
pub data Form : Type 0 where
  Shown : (saying : Saying) (program schedule : List ℕ) → Form
  Hunted : (range : Range) (seek : Seek) (name program : List ℕ) → Form
  Bare : (alone : Alone) (trace : List ℕ) → Form
  CheckedProgram : (name program : List ℕ) → Form
  CheckedSchedule : (name schedule_name program schedule : List ℕ) → Form
  Why : (code : ℕ) → Form
  Help : (text : List ℕ) → Form

-- help with the form of a word
abbrev pub help_of : List ℕ → Option Form
help_of word = option_map Help (help_with word)

-- whether this is the name of a code
abbrev pub is_name_of : List ℕ → Option Entry → Bool
is_name_of word None = false
is_name_of word (Some entry) = bytes_eq entry.name word

-- the first code of this name; they are below 134
unfoldable pub code_named : List ℕ → Option ℕ
code_named word = find (λ code. is_name_of word (entry_of code)) (range_with_len 0 134)

-- the code that a word is, by its number or by its name
abbrev pub code_or : Option ℕ → List ℕ → Option ℕ
code_or (Some code) word = Some code
code_or None word = code_named word

abbrev pub code_by : List ℕ → Option ℕ
code_by word = code_or (number_below (2 ^ 16) word) word

-- what is said of a code, what refuses the program in a file, or the races of a trace by two orders
abbrev pub two_of : List ℕ → List ℕ → Option Form
two_of word second =
    if bytes_eq word (codes "why") then option_map Why (code_by second)
    else (if bytes_eq word (codes "check") then Some (CheckedProgram second second)
    else (if bytes_eq word (codes "rust") then Some (Bare alone.TwoOrders second) else None))

-- all steps, all as JSON, the races, those by two orders, the picture of those about the first race, or how the run can
-- go on; what an order becomes, or where it can't go on
abbrev pub whole_of : List ℕ → List ℕ → List ℕ → Option Form
whole_of word program schedule =
    if bytes_eq word (codes "steps") then Some (Shown (OfRun (Steps 0 (2 ^ 22))) program schedule)
    else (if bytes_eq word (codes "json") then Some (Shown (OfRun Json) program schedule)
    else (if bytes_eq word (codes "races") then Some (Shown (OfRun Races) program schedule)
    else (if bytes_eq word (codes "rust") then Some (Shown (OfRun TwoOrders) program schedule)
    else (if bytes_eq word (codes "picture") then Some (Shown (OfRun (Picture None)) program schedule)
    else (if bytes_eq word (codes "next") then Some (Shown Next program schedule)
    else (if bytes_eq word (codes "fill") then Some (Shown (OfOrder Schedule) program schedule)
    else (if bytes_eq word (codes "halt") then Some (Shown (OfOrder Halt) program schedule) else None)))))))

-- what refuses the schedule in a file or its program in another, or what is said of the two
abbrev pub three_form : List ℕ → List ℕ → List ℕ → Option Form
three_form word program schedule =
    if bytes_eq word (codes "check") then Some (CheckedSchedule program schedule program schedule)
    else whole_of word program schedule

-- the steps from the first of these numbers to the last, counted from 1
abbrev pub span_of : Option ℕ → Option ℕ → Option Span
span_of None last = None
span_of (Some first) None = None
span_of (Some first) (Some last) = Some (record { from = first - 1; to = last })

-- what is shown of these steps
abbrev pub spanned : List ℕ → Span → Option Part
spanned word span =
    if bytes_eq word (codes "steps") then Some (Steps span.from span.to)
    else (if bytes_eq word (codes "order") then Some (Order span.from (span.to - 1))
    else (if bytes_eq word (codes "picture") then Some (Picture (Some span)) else None))

-- a part of a run
abbrev pub shown_of : List ℕ → List ℕ → Part → Form
shown_of program schedule part = Shown (OfRun part) program schedule

-- the steps between two numbers, their picture, or the order of the two
abbrev pub part_of : List ℕ → List ℕ → List ℕ → Option Span → Option Form
part_of word program schedule None = None
part_of word program schedule (Some span) = option_map (shown_of program schedule) (spanned word span)

-- the steps of a trace between two numbers
abbrev pub bare_of : List ℕ → List ℕ → Option Span → Option Form
bare_of word trace None = None
bare_of word trace (Some span) = if bytes_eq word (codes "steps") then Some (Bare (alone.Steps span) trace) else None

-- numbers from one to another, and how many entries the schedules have at most that are drawn from them
abbrev pub range_of : Option ℕ → Option ℕ → Option ℕ → Option Range
range_of None to most = None
range_of (Some from) None most = None
range_of (Some from) (Some to) None = None
range_of (Some from) (Some to) (Some most) =
    if nat_le from to then Some (record { from = from; to = to; most = most }) else None

-- a hunt over them
abbrev pub hunt_of : List ℕ → List ℕ → Option Range → Option Aim → Option Form
hunt_of word program None aim = None
hunt_of word program (Some range) aim =
    if bytes_eq word (codes "hunt") then Some (Hunted range (seeking aim) program program) else None

-- the schedule of a number
abbrev pub drawn_of : List ℕ → Option Range → Option Form
drawn_of program None = None
drawn_of program (Some range) = Some (Hunted range Drawn program program)

-- with an aim
abbrev pub aimed_of : List ℕ → List ℕ → Option Range → Option Aim → Option Form
aimed_of word program range None = None
aimed_of word program range (Some aim) = hunt_of word program range (Some aim)

-- whether this is the name of a reason, which have the codes from 100 to 133
abbrev pub is_reason : List ℕ → Bool
is_reason word = list_any (λ code. is_name_of word (entry_of code)) (range_with_len 100 34)

-- whether this is the name of a verdict, or of a reason for which one is undefined
abbrev pub is_verdict : List ℕ → Bool
is_verdict word =
    bytes_eq word (codes "exit") || (bytes_eq word (codes "running") || (bytes_eq word (codes "leak")
    || (bytes_eq word (codes "abort") || (bytes_eq word (codes "deadlock") || is_reason word))))

-- an aim of one word
abbrev pub word_aim : List ℕ → Option Aim
word_aim word =
    if bytes_eq word (codes "any") then Some Any
    else (if bytes_eq word (codes "race") then Some Race
    else (if bytes_eq word (codes "rust") then Some RustRace
    else (if bytes_eq word (codes "undefined") then Some Undefined
    else (if is_verdict word then Some (Named word) else None))))

-- two lines
abbrev pub lines_from : Option ℕ → Option ℕ → Option Aim
lines_from None other = None
lines_from (Some one) None = None
lines_from (Some one) (Some other) = Some (Lines one other)

-- an aim of two words: `prints TEXT`, or two lines
abbrev pub two_aim : List ℕ → List ℕ → Option Aim
two_aim word text =
    if bytes_eq word (codes "prints") then Some (Prints text)
    else lines_from (number_below (2 ^ 32) word) (number_below (2 ^ 32) text)

-- the range of three words
abbrev pub word_range : List ℕ → List ℕ → List ℕ → Option Range
word_range from to most =
    range_of (number_below (2 ^ 64) from) (number_below (2 ^ 64) to) (number_below (2 ^ 20 + 1) most)

-- the number of a step, counted from 0, and in words from 1
abbrev pub step_of : Option ℕ → Option ℕ
step_of None = None
step_of (Some number) = if number == 0 then None else Some (number - 1)

-- which entries the schedule of a race takes, by a word
abbrev pub selection_of : List ℕ → Option Selection
selection_of word = if bytes_eq word (codes "short") then Some Needed else None

-- the schedule that shows the race of a step
abbrev pub witness_of : List ℕ → List ℕ → Option ℕ → Option Selection → Option Form
witness_of program schedule None selection = None
witness_of program schedule (Some step) None = None
witness_of program schedule (Some step) (Some selection) = Some (Shown (Witness step selection) program schedule)

-- four words
abbrev pub four_form : List ℕ → List ℕ → List ℕ → List ℕ → Option Form
four_form word file third fourth =
    if bytes_eq word (codes "draw") then drawn_of file (word_range third third fourth)
    else (if bytes_eq word (codes "witness")
    then witness_of file third (step_of (number_below (2 ^ 32) fourth)) (Some Kept)
    else bare_of word file (span_of (number_below (2 ^ 32) third) (number_below (2 ^ 32) fourth)))

-- five words and more
abbrev pub long_form : List ℕ → List ℕ → List ℕ → List ℕ → List ℕ → List (List ℕ) → Option Form
long_form word program third fourth fifth [] =
    if bytes_eq word (codes "hunt") then hunt_of word program (word_range third fourth fifth) None
    else (if bytes_eq word (codes "witness")
    then witness_of program third (step_of (number_below (2 ^ 32) fourth)) (selection_of fifth)
    else part_of word program third (span_of (number_below (2 ^ 32) fourth) (number_below (2 ^ 32) fifth)))
long_form word program third fourth fifth (aim ∷ []) =
    aimed_of word program (word_range third fourth fifth) (word_aim aim)
long_form word program third fourth fifth (aim ∷ text ∷ []) =
    aimed_of word program (word_range third fourth fifth) (two_aim aim text)
long_form word program third fourth fifth _ = None

-- `steps P S`, `steps P S FIRST LAST`, `json P S`, `races P S`, `rust P S`, `picture P S`, `picture P S FIRST LAST`,
-- `order P S FIRST LAST`, `next P S`, `rust T` and `steps T FIRST LAST`, where FIRST and LAST are below 2^32;
-- `witness P S J`, where J is from 1 to 2^32 - 1, and `short` behind it;
-- `fill P O` and `halt P O`;
-- `hunt P FROM TO M`, where FROM is at most TO, both are below 2^64, and M is at most 2^20, and an aim behind it;
-- `draw P N M`, with such numbers; `check P` and `check P S`; `why CODE`, where CODE is below 2^16 or the name of a
-- code; `--help`, and that behind `steps`, `json`, `races`, `rust`, `picture`, `order`, `witness`, `next`, `check`,
-- `fill`, `halt`, `hunt`, `draw` or `why`; and no other form
abbrev pub form_of : List (List ℕ) → Option Form
form_of (word ∷ []) = if bytes_eq word (codes "--help") then Some (Help help_with_all) else None
form_of (word ∷ option ∷ []) =
    if bytes_eq option (codes "--help") then help_of word else two_of word option
form_of (word ∷ program ∷ schedule ∷ []) = three_form word program schedule
form_of (word ∷ file ∷ third ∷ fourth ∷ []) = four_form word file third fourth
form_of (word ∷ program ∷ third ∷ fourth ∷ fifth ∷ rest) = long_form word program third fourth fifth rest
form_of _ = None

-- the form that the words ask for
abbrev pub asked : Words → Form
asked (words.Shown saying program schedule) = Shown saying program.now schedule.now
asked (words.Hunted range seek program) = Hunted range (seek_of seek) program.now program.now
asked (words.Bare alone trace) = Bare alone trace.now
asked (words.CheckedProgram program) = CheckedProgram program.now program.now
asked (words.CheckedSchedule program schedule) =
    CheckedSchedule program.now schedule.now program.now schedule.now
asked (words.Why code) = Why code
asked (words.Help text) = Help text.now
