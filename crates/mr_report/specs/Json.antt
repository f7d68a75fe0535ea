-- The JSON of a report.
use Rattle.std.specs.Prelude.{◌≡◌, ℕ, ◌+◌, ◌==◌, ◌&&◌, ◌||◌, nat_lt, Bool, true, if◌then◌else◌}
use Rattle.std.specs.Prelude.{List, [], ◌∷◌, ◌++◌, All, map, flat_map, codes, decimal, Option, None, Some}
use Rattle.std.specs.List.{join_with_byte, list_all}
use Rattle.mr_base.specs.declared.reason.Verdict.{Verdict}
use Rattle.mr_event.specs.declared.footprint.Pair.{Pair}
use Rattle.mr_sched.specs.declared.schedule.Schedule.{Schedule}
use Rattle.mr_sched.specs.declared.version.Version.{Version}
use Rattle.mr_sched.specs.Versions.{text_in}
use Rattle.mr_report.specs.declared.report.Line.{Line}
use Rattle.mr_report.specs.Report.{line, verdict_text}

-- a digit, a small letter, `-` or space
abbrev pub is_printed : ℕ → Bool
is_printed b = (nat_lt 47 b && nat_lt b 58) || (nat_lt 96 b && nat_lt b 123) || (b == 45) || (b == 32)

-- the texts of the lines have no other bytes
abbrev pub ArePrinted : List Line → Type 0
ArePrinted lines = All (λ l. list_all is_printed l.text ≡ true) lines

-- in a string, `\n` stands for a line feed; any other byte stands for itself
abbrev pub escaped : ℕ → List ℕ
escaped b = if b == 10 then 92 ∷ 110 ∷ [] else b ∷ []

-- a string: its bytes between two quotes
abbrev pub quoted : List ℕ → List ℕ
quoted text = codes "\"" ++ flat_map escaped text ++ codes "\""

-- an array: its items between brackets, and a comma between each two
abbrev pub array : List (List ℕ) → List ℕ
array items = codes "[" ++ join_with_byte 44 items ++ codes "]"

-- `[I,J]`, the places of a race's steps, counted from 1
abbrev pub race_array : Pair → List ℕ
race_array p = array (decimal (p.first + 1) ∷ decimal (p.second + 1) ∷ [])

-- the text of the schedule in a version as a string, or `null`
abbrev pub witness_value : Version → Option Schedule → List ℕ
witness_value version None = codes "null"
witness_value version (Some w) = quoted (text_in version w)

-- the object with its four members in order: the printed texts, the races, the verdict and the witness
abbrev pub object_text : List Line → Verdict → List Pair → Option Schedule → Version → List ℕ
object_text output v races witness version =
    codes "{\"output\":" ++ array (map (λ l. quoted l.text) output)
    ++ codes ",\"races\":" ++ array (map race_array races)
    ++ codes ",\"verdict\":" ++ quoted (verdict_text v)
    ++ codes ",\"witness\":" ++ witness_value version witness
    ++ codes "}"

-- THE JSON OF A REPORT: the object, and LF
abbrev pub json_text : List Line → Verdict → List Pair → Option Schedule → Version → List ℕ
json_text output v races witness version = line (object_text output v races witness version)
