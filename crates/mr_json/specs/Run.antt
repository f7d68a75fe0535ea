-- The JSON of a run.
use Rattle.std.specs.Prelude.{◌≡◌, ℕ, ◌+◌, List, map, codes, Option, None, Some, slice_get}
use Rattle.serde_json.specs.Data.{Data, null, number, string, unsigned, array, object, member, no_members}
use Rattle.serde_json.specs.Read.{read}
use Rattle.serde_json.specs.View.{items_of}
use Rattle.serde_json.specs.Written.{compact_text}
use Rattle.mr_base.specs.Reasons.{code_of}
use Rattle.mr_base.specs.declared.reason.Verdict.{Verdict}
use Rattle.mr_base.specs.declared.reason.Verdict.TheVariants as verdict
use Rattle.mr_event.specs.declared.footprint.Pair.{Pair}
use Rattle.mr_report.specs.Report.{line, verdict_text}
use Rattle.mr_labels.specs.declared.step.Stand.{Stand}
use Rattle.mr_labels.specs.declared.step.ToldStep.{ToldStep}
use Rattle.mr_listing.specs.declared.held.StepValues.{StepValues}
use Rattle.mr_listing.specs.Seen.{Seen}
use Rattle.mr_json.specs.Parts.{number_data, place_data}
use Rattle.mr_json.specs.Steps.{lines_data, step_data}

-- where the thread of a step stood before it, where that step is told
abbrev pub before_of : Option ToldStep → Option Stand
before_of None = None
before_of (Some told) = told.before

-- a step of a race, with its place: all steps are told, and each stands at its number
abbrev pub side_data : Seen → ℕ → Data
side_data s at = object
    (member (codes "place") (place_data s (before_of (slice_get s.steps at)))
    (member (codes "step") (number_data (at + 1)) no_members))

-- A RACE: its two steps, the earlier one first
abbrev pub race_data : Seen → Pair → Data
race_data s pair = object
    (member (codes "first") (side_data s pair.first)
    (member (codes "second") (side_data s pair.second) no_members))

-- the code of the reason of an undefined run
abbrev pub code_data : Verdict → Data
code_data (verdict.Undefined reason) = number (unsigned (code_of reason))
code_data _ = null

-- THE VALUE OF A RUN: the code of an undefined one, its prints, its races, its steps with what their accesses hold, its
-- verdict, and the version of this form, which is 1
abbrev pub run_data : Seen → List StepValues → Data
run_data s values = object
    (member (codes "code") (code_data s.verdict)
    (member (codes "output") (lines_data s.lines)
    (member (codes "races") (array (items_of (map (race_data s) s.races)))
    (member (codes "steps") (array (items_of (map (step_data s values) s.steps)))
    (member (codes "verdict") (string (verdict_text s.verdict))
    (member (codes "version") (number (unsigned 1)) no_members))))))

-- THE JSON OF A RUN: the text of that value without spaces, and a line feed
abbrev pub json_text : Seen → List StepValues → List ℕ
json_text s values = line (compact_text (run_data s values))

-- the text is a line that READS AS the value: as `serde_json` reads a text, whatever tool wrote it
abbrev pub ReadsAs : List ℕ → Data → Type 0
ReadsAs text d = (front : List ℕ) × (text ≡ line front) × (read front ≡ Some d)
