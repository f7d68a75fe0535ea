-- What contracts see of what a text is made of.
use Rattle.std.specs.Prelude.{ℕ, List, Option}
use Rattle.mr_ast.specs.declared.program.Program.{Program}
use Rattle.mr_base.specs.declared.reason.Verdict.{Verdict}
use Rattle.mr_event.specs.Footprint.{Footprint}
use Rattle.mr_event.specs.declared.footprint.Pair.{Pair}
use Rattle.mr_places.specs.Laid.{Laid}
use Rattle.mr_report.specs.declared.report.Line.{Line}
use Rattle.mr_labels.specs.declared.rows.Allocation.{Allocation}
use Rattle.mr_labels.specs.declared.step.Rest.{Rest}
use Rattle.mr_labels.specs.declared.step.Stand.{Stand}
use Rattle.mr_labels.specs.declared.step.ToldStep.{ToldStep}
use Rattle.mr_listing.specs.declared.shown.Shown.{Shown}

-- a program with its text and the places of its statements there; the allocations of its run; what its steps tell, or
-- those of a part; where the thread of each step stood before it, for a text of places; how many it has; their
-- footprints; the prints; the races that it shows, and its verdict; and how its threads stand at the end
pub record Seen : Type 0 where
  pub text : List ℕ
  pub program : Program
  pub laid : Laid
  pub rows : List Allocation
  pub steps : List ToldStep
  pub stands : List (Option Stand)
  pub count : ℕ
  pub feet : List Footprint
  pub lines : List Line
  pub races : List Pair
  pub verdict : Verdict
  pub rests : List Rest

abbrev pub seen : Shown → Seen
seen s = record {
  text = s.text.now;
  program = s.program.now;
  laid = s.places.now;
  rows = s.rows.now;
  steps = s.steps.now;
  stands = s.stands.now;
  count = s.count;
  feet = s.feet.now;
  lines = s.lines.now;
  races = s.races.now;
  verdict = s.verdict;
  rests = s.rests.now;
}
