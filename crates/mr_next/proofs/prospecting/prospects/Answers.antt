use Rattle.mr_next.proofs.Common.{◌∙◌}
use Rattle.mr_auto.proofs.Nexts.{weaker}
use Rattle.mr_next.proofs.ProspectLaws.{all_there, state_there}
use Rattle.mr_next.proofs.prospecting.prospects.Goals as goal

pub first_prospects-requires-clause-state : goal.first_prospects-requires-clause-state
first_prospects-requires-clause-state c = state_there c.args.machine.now.config.state c.threads-count.result c.threads-count.ensures.gone c.if-count-eq0.false

pub returns : goal.returns
returns c =
    let (s, here) = state_there c.args.machine.now.config.state c.threads-count.result c.threads-count.ensures.gone c.if-count-eq0.false in
    weaker c.first_prospects.result _ _ (λ ps h. h s here ∙ all_there c.args.machine.now.look c.args.machine.now.config.state s c.threads-count.result here (c.threads-count.ensures.there s here)) c.first_prospects.ensures
