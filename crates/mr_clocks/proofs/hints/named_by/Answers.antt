use Rattle.mr_clocks.proofs.hints.named_by.Goals as goal

pub returns-then-leads_anew : goal.returns-then-leads_anew
returns-then-leads_anew c = c.leads_anew.ensures c.if-leads_anew.true
