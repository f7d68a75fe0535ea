use Rattle.mr_runs.proofs.Common.{◌∙◌, ap, found}
use Rattle.mr_runs.proofs.ExchangeLaws.{filled_found, given_back}
use Rattle.mr_runs.proofs.PlacedLaws.{same_as_placed}
use Rattle.mr_runs.proofs.exchange.stake_all.Goals as goal

pub returns-in-Err-clause-err : goal.returns-in-Err-clause-err
returns-in-Err-clause-err g c =
    let old = c.args.runs.now.entries in
    let now = c.stake.new.runs.entries in
    let new = c.unstake_all.new.runs.entries in
    same_as_placed new old 0 c.len-ordered.ensures.ordered c.requires.placed c.requires.maximal
    (λ q. given_back old now new c.args.row.now c.loop-at.at-index q (filled_found old q c.requires.maximal) (ap (found q) c.in-Err.ensures.err ∙ c.loop-at.invariant q) (c.unstake_all.ensures q))
