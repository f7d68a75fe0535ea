-- Reading a schedule from its text, as functions on lists that compute.
use Rattle.std.specs.Prelude.{◌≡◌, ℕ, ◌+◌, ◌^◌, Bool, false, ◌&&◌, not, if◌then◌else◌, ◌==◌, nat_lt, List, [], ◌∷◌}
use Rattle.std.specs.Prelude.{◌++◌, replicate, length, Option, Some, None, Result, Ok, Err, option_and_then, option_map}
use Rattle.std.specs.Prelude.{bytes_eq, codes}
use Rattle.std.specs.List.{slice_split}
use Rattle.std.specs.Char.{is_ascii_digit}
use Rattle.std.specs.Str.{all_ascii_digits}
use Rattle.std.specs.Str.Parse.{digits_value}
use Rattle.mr_sched.specs.Limits.{max_bytes, max_entries}
use Rattle.mr_sched.specs.declared.fault.SchedFault.{SchedFault}
use Rattle.mr_sched.specs.declared.fault.SchedFault.TheVariants.{Bad, Memory}
use Rattle.mr_sched.specs.declared.fault.TheConstants.{BAD_HEADER, BAD_LINE, TOO_LONG}
use Rattle.mr_sched.specs.declared.schedule.Entry.{Entry}
use Rattle.mr_sched.specs.declared.version.Read.{Read}
use Rattle.mr_sched.specs.declared.version.Group.{Group}
use Rattle.mr_sched.specs.declared.version.Version.{Version}
use Rattle.mr_sched.specs.declared.version.Version.TheVariants.{One, Two}
use Rattle.mr_sched.specs.Versions.{joins, last_entry}

-- where a text stops being a schedule, lines being counted from 1, and why
pub record Fault : Type 0 where
  pub line : ℕ
  pub code : ℕ

-- What a reader answered is what reading gives, unless memory ran out.
abbrev pub Gives : {A : Type 0} → Result A SchedFault → Result A Fault → Type 0
Gives (Ok x) read = read ≡ Ok x
Gives (Err (Bad line code)) read = read ≡ Err (record { line = line; code = code })
Gives (Err Memory) read = Unit {0}

-- the parts of a text between the bytes c, the last of which no c ends
abbrev pub parts_at : ℕ → List ℕ → List (List ℕ)
parts_at c text = slice_split (λ b. b == c) text

-- the parts of what follows a byte c, if anything does
abbrev pub parts_after : ℕ → Option (List ℕ) → List (List ℕ)
parts_after c None = []
parts_after c (Some text) = parts_at c text

-- digits without a leading zero
abbrev pub is_numeral : List ℕ → Bool
is_numeral [] = false
is_numeral (digit ∷ []) = is_ascii_digit digit
is_numeral (digit ∷ next ∷ digits) = not (digit == 48) && all_ascii_digits (digit ∷ next ∷ digits)

-- the number that a word spells, if it is below the limit
unfoldable pub number_of : ℕ → List ℕ → Option ℕ
number_of limit word =
    if is_numeral word && nat_lt (digits_value 10 word) limit then Some (digits_value 10 word) else None

-- the picks that the words of a line spell
unfoldable pub picks_of : List (List ℕ) → Option (List ℕ)
picks_of [] = Some []
picks_of (word ∷ words) = option_and_then (λ n. option_map (λ ns. n ∷ ns) (picks_of words)) (number_of (2 ^ 64) word)

-- the start picks that the words of a line spell
unfoldable pub start_of : List (List ℕ) → Option (List ℕ)
start_of [] = None
start_of (word ∷ words) = if bytes_eq word (codes "start") then picks_of words else None

-- the entry that the words of a line spell
unfoldable pub entry_of : List (List ℕ) → Option Entry
entry_of [] = None
entry_of (word ∷ words) =
    option_and_then (λ t. option_map (λ ns. record { thread = t; picks = ns }) (picks_of words))
    (number_of (2 ^ 32) word)

-- what a line gives, or the fault at it
abbrev pub at_line : {A : Type 0} → ℕ → Option A → Result A Fault
at_line line None = Err (record { line = line; code = BAD_LINE })
at_line line (Some x) = Ok x

-- a number of entries that one line may hold beside its thread: two or more
unfoldable pub count_of : List ℕ → Option ℕ
count_of word = option_and_then (λ n. if nat_lt 1 n then Some n else None) (number_of (2 ^ 64) word)

-- the entries that a thread and a count spell
unfoldable pub repeated_of : List ℕ → List ℕ → Option Group
repeated_of thread count =
    option_and_then
    (λ t. option_map (λ n. record { entry = record { thread = t; picks = [] }; count = n }) (count_of count))
    (number_of (2 ^ 32) thread)

-- an entry that stands alone on its line
abbrev pub single : Option Entry → Option Group
single o = option_map (λ e. record { entry = e; count = 1 }) o

-- the entries that a line spells, the words between its stars being these
abbrev pub starred_of : List ℕ → List (List ℕ) → Option Group
starred_of line [] = None
starred_of line (word ∷ []) = single (entry_of (parts_at 32 line))
starred_of line (thread ∷ count ∷ []) = repeated_of thread count
starred_of line (thread ∷ count ∷ other ∷ more) = None

-- the entries that a line spells
unfoldable pub group_of : Version → List ℕ → Option Group
group_of One line = single (entry_of (parts_at 32 line))
group_of Two line = starred_of line (parts_at 42 line)

-- the entries so far and those of a line behind them
abbrev pub line_then : Version → List Entry → ℕ → Option Group → Result (List Entry) Fault
line_then v front line None = Err (record { line = line; code = BAD_LINE })
line_then v front line (Some g) =
    if joins v (last_entry None front) g.entry then Err (record { line = line; code = BAD_LINE })
    else if nat_lt max_entries (length front + g.count) then Err (record { line = line; code = TOO_LONG })
    else Ok (front ++ replicate g.count g.entry)

-- what comes of entries, where there is no fault
abbrev pub on_entries : {A : Type 0} → (List Entry → Result A Fault) → Result (List Entry) Fault → Result A Fault
on_entries f (Ok es) = f es
on_entries f (Err fault) = Err fault

-- the entries so far and those of the lines from this one on
unfoldable pub entries_from : Version → List Entry → ℕ → List (List ℕ) → Result (List Entry) Fault
entries_from v front line [] = Ok front
entries_from v front line (rest ∷ []) =
    if length rest == 0 then Ok front else Err (record { line = line; code = BAD_LINE })
entries_from v front line (first ∷ next ∷ lines) =
    on_entries (λ es. entries_from v es (line + 1) (next ∷ lines)) (line_then v front line (group_of v first))

-- a schedule of these start picks, if the line spells any, and these entries
abbrev pub start_then : Version → Option (List ℕ) → Result (List Entry) Fault → Result Read Fault
start_then v None others = Err (record { line = 2; code = BAD_LINE })
start_then v (Some picks) (Ok es) = Ok (record { schedule = record { start = picks; entries = es }; version = v })
start_then v (Some picks) (Err f) = Err f

-- the schedule of the lines from line 2 on
unfoldable pub body_of : Version → List (List ℕ) → Result Read Fault
body_of v [] = Err (record { line = 2; code = BAD_LINE })
body_of v (rest ∷ []) = Err (record { line = 2; code = BAD_LINE })
body_of v (line ∷ next ∷ lines) = start_then v (start_of (parts_at 32 line)) (entries_from v [] 3 (next ∷ lines))

-- the version that the first line names
abbrev pub version_of : List ℕ → Option Version
version_of line =
    if bytes_eq line (codes "schedule 1") then Some One
    else if bytes_eq line (codes "schedule 2") then Some Two else None

-- the schedule of the lines behind the first, if that names a version
abbrev pub header_then : Option Version → List (List ℕ) → Result Read Fault
header_then None lines = Err (record { line = 1; code = BAD_HEADER })
header_then (Some v) lines = body_of v lines

-- the schedule of the lines of a text
unfoldable pub lines_schedule : List (List ℕ) → Result Read Fault
lines_schedule [] = Err (record { line = 1; code = BAD_HEADER })
lines_schedule (rest ∷ []) = Err (record { line = 1; code = BAD_HEADER })
lines_schedule (line ∷ next ∷ lines) = header_then (version_of line) (next ∷ lines)

-- the schedule and the version that the text spells, or its first fault
unfoldable pub schedule_of : List ℕ → Result Read Fault
schedule_of text =
    if nat_lt max_bytes (length text) then Err (record { line = 1; code = TOO_LONG })
    else lines_schedule (parts_at 10 text)
