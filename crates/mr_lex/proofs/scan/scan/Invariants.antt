use Rattle.mr_lex.proofs.Common.{length, ◌-◌}
use Rattle.mr_lex.proofs.ScanLaws.{IsScanned}
use Rattle.mr_lex.proofs.scan.scan.Given as goal

abbrev pub invariant-loop-place : goal.invariant-loop-place
invariant-loop-place l = IsScanned l.text l.spans.items l.place

abbrev pub decreases-loop-place : goal.decreases-loop-place
decreases-loop-place l = length l.text - l.place.at
