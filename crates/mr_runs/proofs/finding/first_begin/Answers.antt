use Rattle.mr_runs.proofs.Common.{sym, Less}
use Rattle.std.specs.Cmp.{nat_cmp_is}
use Rattle.mr_runs.proofs.FindLaws.{not_greater}
use Rattle.mr_runs.proofs.finding.first_begin.Goals as goal

pub returns-in-None-clause-none : goal.returns-in-None-clause-none
returns-in-None-clause-none g c = λ q low high. (c.range.ensures.in_range tt).5 c.in-None.ensures.steps.0 q (not_greater c.args.from q low, sym (nat_cmp_is q c.args.to Less high))
