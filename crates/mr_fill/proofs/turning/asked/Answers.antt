use Rattle.mr_fill.proofs.Common.{ap, sym, ◌∙◌, Err}
use Rattle.mr_fill.proofs.TurnLaws.{asked_told, missing_told}
use Rattle.mr_fill.proofs.turning.asked.Goals as goal

pub returns-in-Some : goal.returns-in-Some
returns-in-Some c = λ s here.
    asked_told s.shared.statuses c.args.chooser.now c.args.turn c.args.asks.now (sym c.is_surplus.ensures ∙ c.if-is_surplus.false)
    c.in-Some.picks c.picks_for.new.chooser (rw c.in-Some.is at (c.in_ok-picks.ensures s here))

pub returns-in-None : goal.returns-in-None
returns-in-None c = λ s here.
    missing_told s.shared.statuses c.args.chooser.now c.args.turn c.args.asks.now (sym c.is_surplus.ensures ∙ c.if-is_surplus.false)
    (rw c.in-None.is at (c.in_ok-picks.ensures s here))
    ∙ ap (λ n. Err n) (sym c.missing_code.ensures)
