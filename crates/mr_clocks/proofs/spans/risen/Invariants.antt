use Rattle.mr_clocks.proofs.SpanLaws.{IsRisen}
use Rattle.mr_clocks.proofs.spans.risen.Given as goal

abbrev pub invariant-loop-i : goal.invariant-loop-i
invariant-loop-i l = IsRisen l.spans l.all.items l.i l.top
