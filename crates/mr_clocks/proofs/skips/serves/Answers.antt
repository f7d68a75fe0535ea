use Rattle.mr_clocks.proofs.skips.serves.Goals as goal

pub returns-then-leads_from : goal.returns-then-leads_from
returns-then-leads_from c = λ e. record { begins = c.leads_from.ensures.begins c.if-leads_from.true; falls = c.leads_from.ensures.falls c.if-leads_from.true; covered = c.step_covers.ensures e }
