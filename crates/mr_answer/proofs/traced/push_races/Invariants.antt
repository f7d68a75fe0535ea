use Rattle.mr_answer.proofs.Common.{◌≡◌, ◌++◌, take}
use Rattle.std.specs.Prelude.{flat_map}
use Rattle.mr_report.specs.Report.{race_line}
use Rattle.mr_answer.proofs.traced.push_races.Given as goal

-- the races before this one were written
abbrev pub invariant-loop-pair : goal.invariant-loop-pair
invariant-loop-pair l = l.text.items ≡ l.fn.text.items ++ flat_map race_line (take l.pair-index l.races)
