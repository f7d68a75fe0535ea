-- The text of a schedule in each version.
use Rattle.std.specs.Prelude.{◌≡◌, ℕ, suc, zero, ◌+◌, ◌^◌, ◌<◌, ◌≤◌, ◌⊎◌, Bool, false, ◌&&◌, ◌==◌, if◌then◌else◌}
use Rattle.std.specs.Prelude.{Option, Some, None}
use Rattle.std.specs.Prelude.{List, [], ◌∷◌, ◌++◌, length, map, flat_map, replicate, take, codes, decimal}
use Rattle.std.specs.Prelude.{slice_index_or}
use Rattle.mr_sched.specs.Limits.{max_bytes, max_entries}
use Rattle.mr_sched.specs.declared.schedule.Entry.{Entry}
use Rattle.mr_sched.specs.declared.schedule.Schedule.{Schedule}
use Rattle.mr_sched.specs.declared.version.Group.{Group}
use Rattle.mr_sched.specs.declared.version.Version.{Version}
use Rattle.mr_sched.specs.declared.version.Version.TheVariants.{One, Two}
use Rattle.mr_sched.specs.Spelling.{EntryFits, Fits, ended, entry_line, start_line}

-- whether an entry stands on the line of the one before it: where both have no picks and are of one thread
abbrev pub has_no_pick : Entry → Bool
has_no_pick e = length e.picks == 0

-- in version 2 two entries of one thread without picks stand on one line
abbrev pub are_together : Version → Entry → Entry → Bool
are_together One e f = false
are_together Two e f = (e.thread == f.thread) && (has_no_pick e && has_no_pick f)

-- The lines of entries, as few as can be; on the line of the first there are n more before it.
abbrev pub groups_behind : Version → ℕ → List Entry → List Group
groups_behind v n [] = []
groups_behind v n (e ∷ []) = record { entry = e; count = n + 1 } ∷ []
groups_behind v n (e ∷ f ∷ es) =
    if are_together v e f then groups_behind v (n + 1) (f ∷ es)
    else record { entry = e; count = n + 1 } ∷ groups_behind v 0 (f ∷ es)

-- THE LINES OF ENTRIES
abbrev pub groups_of : Version → List Entry → List Group
groups_of v es = groups_behind v 0 es

-- the entries of lines
abbrev pub entries_in : List Group → List Entry
entries_in gs = flat_map (λ g. replicate g.count g.entry) gs

-- the line of an entry, or of how many stand on it
abbrev pub group_line : Group → List ℕ
group_line g = if g.count == 1 then entry_line g.entry else decimal g.entry.thread ++ 42 ∷ decimal g.count

-- the first line
abbrev pub header_in : Version → List ℕ
header_in One = codes "schedule 1"
header_in Two = codes "schedule 2"

-- the lines of a schedule
abbrev pub lines_in : Version → Schedule → List (List ℕ)
lines_in v s = header_in v ∷ start_line s.start ∷ map group_line (groups_of v s.entries)

-- the lines of some groups, each ended
abbrev pub groups_text : List Group → List ℕ
groups_text gs = flat_map (λ g. ended (group_line g)) gs

-- THE ONE TEXT OF A SCHEDULE in a version
unfoldable pub text_in : Version → Schedule → List ℕ
text_in v s = flat_map ended (lines_in v s)

-- at most so many entries, in at most so many bytes as a schedule may have
pub record IsWithinLimits (v : Version) (s : Schedule) : Type 0 where
  pub entries : length s.entries ≤ max_entries
  pub bytes : length (text_in v s) ≤ max_bytes

-- the text is that of the schedule in the version, which fits and is within the limits
pub record Schedules (text : List ℕ) (v : Version) (s : Schedule) : Type 0 where
  pub spelled : text ≡ text_in v s
  pub fits : Fits s
  pub limits : IsWithinLimits v s

-- ---- lines one by one

-- a line holds one entry, or in version 2 two or more without picks
pub record GroupFits (v : Version) (g : Group) : Type 0 where
  pub entry : EntryFits g.entry
  pub count : (g.count ≡ 1) ⊎ ((v ≡ Two) × (g.entry.picks ≡ []) × (2 ≤ g.count))
  pub small : g.count < 2 ^ 64

-- whether an entry belongs on the line of the one before it, where there is one
abbrev pub joins : Version → Option Entry → Entry → Bool
joins v None e = false
joins v (Some before) e = are_together v before e

-- behind a line of this entry, if any, stand lines that fit, and no two neighbours among them could be one line
abbrev pub AreLines : Version → Option Entry → List Group → Type 0
AreLines v last [] = Unit {0}
AreLines v last (g ∷ gs) = GroupFits v g × (joins v last g.entry ≡ false) × AreLines v (Some g.entry) gs

-- how many entries stand on lines
abbrev pub entry_count : List Group → ℕ
entry_count [] = 0
entry_count (g ∷ gs) = g.count + entry_count gs

-- the entry of the last line, where there is one
abbrev pub last_line : Option Entry → List Group → Option Entry
last_line last [] = last
last_line last (g ∷ gs) = last_line (Some g.entry) gs

-- the last entry, where there is one
abbrev pub last_entry : Option Entry → List Entry → Option Entry
last_entry last [] = last
last_entry last (e ∷ es) = last_entry (Some e) es

-- ---- lines of entries

-- what stands past the end
abbrev pub no_entry : Entry
no_entry = record { thread = 0; picks = [] }

-- whether the entry behind the one at a place stands on its line
abbrev pub is_joined : Version → List Entry → ℕ → Bool
is_joined v es k = are_together v (slice_index_or es k no_entry) (slice_index_or es (k + 1) no_entry)

-- how many lines begin behind the first entry and up to the entry at a place
abbrev pub begun_to : Version → List Entry → ℕ → ℕ
begun_to v es zero = 0
begun_to v es (suc k) =
    if is_joined v es k then begun_to v es k else suc (begun_to v es k)

-- THE LINE OF AN ENTRY, counted from 0; the first stands on line 3
abbrev pub line_in : Version → List Entry → ℕ → ℕ
line_in v es k = 3 + begun_to v es k

-- of these lines of entries, number i, counted from 0, holds the entry at this place
abbrev pub HoldsEntry : List Group → ℕ → ℕ → Type 0
HoldsEntry gs i k = (i < length gs) × (entry_count (take i gs) ≤ k) × (k < entry_count (take (i + 1) gs))
