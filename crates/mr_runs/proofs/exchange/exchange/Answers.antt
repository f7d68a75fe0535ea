use Rattle.mr_runs.proofs.Common.{◌∙◌, ℕ, List, cond, ap, begins, staked, SeenPiece, found}
use Rattle.mr_runs.proofs.ExchangeLaws.{exchanged_from_staked}
use Rattle.mr_runs.proofs.exchange.exchange.Goals as goal

pub returns-clause-ok : goal.returns-clause-ok
returns-clause-ok g c =
    let old = c.args.runs.now.entries in
    exchanged_from_staked c.args.row.items old c.stake_all.new.runs.entries c.settle.new.runs.entries c.args.end c.requires.row
    (λ q. c.in_ok-stake_all.ensures.ok q ∙ ap (λ (es : List (ℕ × SeenPiece)). cond (begins q es) (staked (found q old)) (found q old)) c.as_slice.ensures.value)
    c.settle.ensures
