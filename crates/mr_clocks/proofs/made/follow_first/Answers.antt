use Rattle.mr_clocks.proofs.Common.{◌∙◌}
use Rattle.mr_clocks.proofs.made.follow_first.Goals as goal

pub returns-clause-syncs : goal.returns-clause-syncs
returns-clause-syncs c = λ m s apart. c.in_ok-hinted.ensures.kept m (c.in_ok-woken.ensures.syncs m s apart)

pub returns-clause-same : goal.returns-clause-same
returns-clause-same c = λ none. c.in_ok-hinted.ensures.same (c.is_either.ensures.other none) ∙ c.in_ok-woken.ensures.same (c.is_either.ensures.one none)
