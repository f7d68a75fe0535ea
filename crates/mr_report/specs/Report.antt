-- The text of a report.
use Rattle.std.specs.Prelude.{ℕ, ◌+◌, List, [], ◌∷◌, ◌++◌, flat_map, codes, decimal, length, Option, None, Some}
use Rattle.mr_base.specs.declared.reason.Verdict.{Verdict}
use Rattle.mr_base.specs.declared.reason.Verdict.TheVariants as verdict
use Rattle.mr_base.specs.Reasons.{code_of, name_of}
use Rattle.mr_event.specs.declared.footprint.Pair.{Pair}
use Rattle.mr_sched.specs.declared.schedule.Schedule.{Schedule}
use Rattle.mr_sched.specs.declared.version.Version.{Version}
use Rattle.mr_sched.specs.Versions.{text_in}
use Rattle.mr_report.specs.declared.report.Line.{Line}

-- a line, ended by LF
abbrev pub line : List ℕ → List ℕ
line text = text ++ 10 ∷ []

-- `> TEXT`
abbrev pub print_line : Line → List ℕ
print_line l = line (codes "> " ++ l.text)

-- what a verdict is called; behind an undefined one stand the reason's code and name
abbrev pub verdict_text : Verdict → List ℕ
verdict_text verdict.Running = codes "running"
verdict_text verdict.Exit = codes "exit"
verdict_text verdict.Leak = codes "leak"
verdict_text verdict.Abort = codes "abort"
verdict_text verdict.Deadlock = codes "deadlock"
verdict_text (verdict.Undefined r) = codes "undefined " ++ decimal (code_of r) ++ codes " " ++ name_of r

-- `race I J`, whose steps are counted from 1
abbrev pub race_line : Pair → List ℕ
race_line p = line (codes "race " ++ decimal (p.first + 1) ++ codes " " ++ decimal (p.second + 1))

-- `races K`
abbrev pub count_line : List Pair → List ℕ
count_line races = line (codes "races " ++ decimal (length races))

-- the same, and a line for each of them
abbrev pub races_text : List Pair → List ℕ
races_text races = count_line races ++ flat_map race_line races

-- `witness N`, and the text of the schedule in a version; it has N entries
abbrev pub witness_text : Version → Option Schedule → List ℕ
witness_text version None = []
witness_text version (Some w) = line (codes "witness " ++ decimal (length w.entries)) ++ text_in version w

-- a report in brief: the prints in order, the verdict, and how many races there are
abbrev pub brief_text : List Line → Verdict → List Pair → List ℕ
brief_text output v races =
    flat_map print_line output ++ line (codes "verdict " ++ verdict_text v) ++ count_line races

-- THE TEXT OF A REPORT: the prints in order, the verdict, the races, and the witness where there is one, in a version
abbrev pub report_text : List Line → Verdict → List Pair → Option Schedule → Version → List ℕ
report_text output v races witness version =
    flat_map print_line output ++ line (codes "verdict " ++ verdict_text v) ++ races_text races
    ++ witness_text version witness
