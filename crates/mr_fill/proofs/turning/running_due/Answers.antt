use Rattle.mr_fill.proofs.Common.{sym, subst, ◌∙◌, ℕ, Result, slice_get, weaker, Next, TurnAnswer}
use Rattle.mr_step.proofs.EntryLaws.{enabled_is}
use Rattle.mr_fill.proofs.TurnLaws.{off_told, on_told}
use Rattle.mr_fill.proofs.turning.running_due.Goals as goal

pub enabled_due-requires-clause-enabled : goal.enabled_due-requires-clause-enabled
enabled_due-requires-clause-enabled c =
    let (s, here) = c.requires.state in
    (s, here, enabled_is (slice_get s.shared.statuses c.args.turn.thread) (sym (c.enabled.ensures.there s here) ∙ c.if-enabled.true))

pub returns-then-enabled : goal.returns-then-enabled
returns-then-enabled c =
    weaker c.enabled_due.result _ _
    (λ due h. λ s here.
    subst (λ (r : Result Next ℕ). TurnAnswer r due c.enabled_due.new.chooser)
    (on_told c.args.machine.now.look s c.args.chooser.now c.args.turn (sym (c.enabled.ensures.there s here) ∙ c.if-enabled.true)) (h s here))
    c.enabled_due.ensures
