use Rattle.mr_layout.proofs.Common.{◌≡◌, map, take, case_key}
use Rattle.mr_layout.proofs.alike.case_keys.Given as goal

abbrev pub invariant-loop-case : goal.invariant-loop-case
invariant-loop-case l = l.keys.items ≡ map case_key (take l.case-index l.cases)
