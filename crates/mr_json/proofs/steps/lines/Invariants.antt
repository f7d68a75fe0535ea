use Rattle.std.specs.Prelude.{◌≡◌, map, take}
use Rattle.serde_json.specs.View.{view}
use Rattle.mr_json.specs.Steps.{line_data}
use Rattle.mr_json.proofs.steps.lines.Given as goal

-- the prints before this one have their values
abbrev pub invariant-loop-print : goal.invariant-loop-print
invariant-loop-print l = map view l.list.items ≡ map line_data (take l.print-index l.lines)
