-- The text of a schedule in version 1, and which numbers fit. Each schedule has one.
use Rattle.std.specs.Prelude.{◌≡◌, ℕ, ◌^◌, ◌<◌, List, [], ◌∷◌, ◌++◌, map, flat_map, codes, decimal}
use Rattle.std.specs.List.{AllByRecursion}
use Rattle.mr_sched.specs.declared.schedule.Entry.{Entry}
use Rattle.mr_sched.specs.declared.schedule.Schedule.{Schedule}

-- the numbers, each behind a space
abbrev pub spaced : List ℕ → List ℕ
spaced numbers = flat_map (λ n. 32 ∷ decimal n) numbers

-- the first line, the same in each text
abbrev pub header_line : List ℕ
header_line = codes "schedule 1"

-- the second line: the start picks
abbrev pub start_line : List ℕ → List ℕ
start_line picks = codes "start" ++ spaced picks

-- the line of an entry: its thread, then its picks
abbrev pub entry_line : Entry → List ℕ
entry_line e = decimal e.thread ++ spaced e.picks

-- the lines of a schedule, entry k on line k + 2
abbrev pub lines_of : Schedule → List (List ℕ)
lines_of s = header_line ∷ start_line s.start ∷ map entry_line s.entries

-- the line and the LF that ends it
abbrev pub ended : List ℕ → List ℕ
ended line = line ++ 10 ∷ []

-- the one text of a schedule
unfoldable pub text_of : Schedule → List ℕ
text_of s = flat_map ended (lines_of s)

-- the start picks, or the picks of an entry, are below 2 ^ 64
abbrev pub PicksFit : List ℕ → Type 0
PicksFit picks = AllByRecursion (λ n. n < 2 ^ 64) picks

-- an entry's numbers are those of a program
pub record EntryFits (e : Entry) : Type 0 where
  pub thread : e.thread < 2 ^ 32
  pub picks : PicksFit e.picks

-- a schedule's numbers are
pub record Fits (s : Schedule) : Type 0 where
  pub start : PicksFit s.start
  pub entries : AllByRecursion EntryFits s.entries

-- the new text is the old one, and maybe more behind it
abbrev pub Extends : List ℕ → List ℕ → Type 0
Extends old new = (more : List ℕ) × (new ≡ old ++ more)
