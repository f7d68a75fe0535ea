use Rattle.mr_next.proofs.Common.{sym, ◌∙◌, slice_get}
use Rattle.mr_step.proofs.EntryLaws.{enabled_is}
use Rattle.mr_next.proofs.prospecting.needed_by.Goals as goal

pub enabled_needed-requires-clause-enabled : goal.enabled_needed-requires-clause-enabled
enabled_needed-requires-clause-enabled c =
    let (s, here) = c.requires.state in
    (s, here, enabled_is (slice_get s.shared.statuses c.args.thread) (sym (c.enabled.ensures.there s here) ∙ c.if-enabled.true))
