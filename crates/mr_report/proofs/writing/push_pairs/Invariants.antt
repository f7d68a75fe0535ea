use Rattle.std.specs.Prelude.{◌≡◌, ◌++◌, flat_map, take}
use Rattle.mr_report.specs.Report.{race_line}
use Rattle.mr_report.proofs.writing.push_pairs.Given as goal

-- the races before this one were written
abbrev pub invariant-loop-pair : goal.invariant-loop-pair
invariant-loop-pair l = l.out.items ≡ l.fn.out.items ++ flat_map race_line (take l.pair-index l.races)
