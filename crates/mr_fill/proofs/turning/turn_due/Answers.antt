use Rattle.mr_fill.proofs.Common.{sym, subst, ◌∙◌, ℕ, Result, weaker, Next, TurnAnswer}
use Rattle.mr_fill.proofs.TurnLaws.{running_told}
use Rattle.mr_fill.proofs.turning.turn_due.Goals as goal

pub running_due-requires-clause-state : goal.running_due-requires-clause-state
running_due-requires-clause-state c = c.requires.state (sym c.is_running.ensures ∙ c.if-is_running.true)

pub returns-then-is_running : goal.returns-then-is_running
returns-then-is_running c =
    let (s, here) = c.requires.state (sym c.is_running.ensures ∙ c.if-is_running.true) in
    weaker c.running_due.result _ _
    (λ due h. subst (λ (r : Result Next ℕ). TurnAnswer r due c.running_due.new.chooser)
    (running_told c.args.machine.now.look c.args.machine.now.config c.args.chooser.now c.args.turn s (sym c.is_running.ensures ∙ c.if-is_running.true) here) (h s here))
    c.running_due.ensures
