use Rattle.mr_wf.proofs.Common.{◌≡◌, drop, true, Num}
use Rattle.mr_layout.specs.EnumRules.{is_case}
use Rattle.mr_typing.specs.Blocks.{are_int_cases}
use Rattle.mr_wf.specs.Seen.{has}
use Rattle.mr_wf.proofs.blocks.are_int_cases.Given as goal

abbrev pub invariant-loop-i : goal.invariant-loop-i
invariant-loop-i l = (are_int_cases l.int (drop l.i l.cases) ≡ true) × ((m : Num) → has l.seen m ≡ is_case m (drop l.i l.cases))
