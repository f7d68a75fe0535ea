-- The first fault of a text that is no schedule.
use Rattle.std.specs.Prelude.{◌≡◌, ◌≢◌, ℕ, ◌+◌, ◌<◌, ◌≤◌, ◌⊎◌, false, Option, None, List, [], ◌∷◌, ◌++◌, length, map}
use Rattle.std.specs.Prelude.{flat_map}
use Rattle.std.specs.List.{AllByRecursion}
use Rattle.mr_sched.specs.Limits.{max_bytes, max_entries}
use Rattle.mr_sched.specs.declared.schedule.Entry.{Entry}
use Rattle.mr_sched.specs.declared.fault.TheConstants.{BAD_HEADER, BAD_LINE, TOO_LONG}
use Rattle.mr_sched.specs.declared.version.Group.{Group}
use Rattle.mr_sched.specs.declared.version.Version.{Version}
use Rattle.mr_sched.specs.Spelling.{start_line, ended, PicksFit}
use Rattle.mr_sched.specs.Versions.{AreLines, GroupFits, entry_count, group_line, header_in, joins, last_line}

-- no LF in the line
abbrev pub IsUnbroken : List ℕ → Type 0
IsUnbroken line = AllByRecursion (λ b. b ≢ 10) line

-- the text is these ended lines, and then a rest that no LF ends: the last line, or nothing
pub record Lines (text : List ℕ) (lines : List (List ℕ)) (rest : List ℕ) : Type 0 where
  pub parts : text ≡ flat_map ended lines ++ rest
  pub unbroken : AllByRecursion IsUnbroken lines
  pub rest_unbroken : IsUnbroken rest

-- the line spells start picks
abbrev pub IsStartLine : List ℕ → Type 0
IsStartLine line = (picks : List ℕ) × PicksFit picks × (line ≡ start_line picks)

-- the line may stand behind one of the last entry: it spells entries that don't belong on that line
abbrev pub IsNext : Version → Option Entry → List ℕ → Type 0
IsNext v last line = (g : Group) × GroupFits v g × (joins v last g.entry ≡ false) × (line ≡ group_line g)

-- behind the good lines stands an ended line that may not stand there
pub record HasOtherLine (v : Version) (last : Option Entry) (lines : List (List ℕ)) (good : List Group) : Type 0 where
  pub line : List ℕ
  pub more : List (List ℕ)
  pub parts : lines ≡ map group_line good ++ line ∷ more
  pub other : IsNext v (last_line last good) line → ⊥

-- the good lines are all that are ended, and a line behind them is begun
pub record HasUnendedLine (lines : List (List ℕ)) (rest : List ℕ) (good : List Group) : Type 0 where
  pub parts : lines ≡ map group_line good
  pub begun : rest ≢ []

-- behind the good lines, before which so many entries stand, the line may stand that holds the first entry too many
pub record HasEntryTooMany (v : Version) (last : Option Entry) (before : ℕ) (lines : List (List ℕ))
    (good : List Group) : Type 0 where
  pub group : Group
  pub more : List (List ℕ)
  pub parts : lines ≡ map group_line good ++ group_line group ∷ more
  pub fits : GroupFits v group
  pub apart : joins v (last_line last good) group.entry ≡ false
  pub full : max_entries < before + entry_count good + group.count

-- behind a line of the last entry, before which so many entries stand, the lines from line number `from` on are wrong
-- at this line with this code: those before it are good
pub record EntriesFail (v : Version) (last : Option Entry) (before from : ℕ) (lines : List (List ℕ)) (rest : List ℕ)
    (line code : ℕ) : Type 0 where
  pub good : List Group
  pub are_good : AreLines v last good
  pub few : before + entry_count good ≤ max_entries
  pub place : line ≡ from + length good
  pub why : (HasOtherLine v last lines good × (code ≡ BAD_LINE))
      ⊎ ((HasUnendedLine lines rest good × (code ≡ BAD_LINE))
      ⊎ (HasEntryTooMany v last before lines good × (code ≡ TOO_LONG)))

-- line 2 is missing, isn't ended, or spells no start picks
abbrev pub HasBadStart : List (List ℕ) → Type 0
HasBadStart lines = (first : List ℕ) (more : List (List ℕ)) → lines ≡ first ∷ more → IsStartLine first → ⊥

-- the lines from line 2 on are wrong at this line with this code
abbrev pub BodyFails : Version → List (List ℕ) → List ℕ → ℕ → ℕ → Type 0
BodyFails v lines rest line code =
    (HasBadStart lines × (line ≡ 2) × (code ≡ BAD_LINE))
    ⊎ ((first : List ℕ) × (more : List (List ℕ)) × (lines ≡ first ∷ more) × IsStartLine first
    × EntriesFail v None 0 3 more rest line code)

-- line 1 is no header, or it isn't ended
abbrev pub HasBadHeader : List (List ℕ) → Type 0
HasBadHeader lines = (v : Version) (more : List (List ℕ)) → lines ≢ header_in v ∷ more

-- the lines of a text are wrong at this line with this code
abbrev pub LinesFail : List (List ℕ) → List ℕ → ℕ → ℕ → Type 0
LinesFail lines rest line code =
    (HasBadHeader lines × (line ≡ 1) × (code ≡ BAD_HEADER))
    ⊎ ((v : Version) × (more : List (List ℕ)) × (lines ≡ header_in v ∷ more) × BodyFails v more rest line code)

-- the first fault of the text, at this line and with this code: too many bytes, or else the first line that is wrong
abbrev pub FirstFault : List ℕ → ℕ → ℕ → Type 0
FirstFault text line code =
    ((max_bytes < length text) × (line ≡ 1) × (code ≡ TOO_LONG))
    ⊎ ((length text ≤ max_bytes) × ((lines : List (List ℕ)) × (rest : List ℕ) × Lines text lines rest
    × LinesFail lines rest line code))
