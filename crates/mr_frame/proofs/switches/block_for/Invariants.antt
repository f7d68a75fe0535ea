use Rattle.mr_frame.proofs.Common.{◌≡◌, drop, first_case}
use Rattle.mr_frame.proofs.switches.block_for.Given as goal

abbrev pub invariant-loop-case : goal.invariant-loop-case
invariant-loop-case l = first_case l.number l.cases l.other ≡ first_case l.number (drop l.case-index l.cases) l.other
