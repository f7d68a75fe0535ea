use Rattle.mr_show.proofs.Common.{ap, arith, length, List, [], subst, sym, Footprint, Allocation, IsToldAs}
use Rattle.mr_replay.proofs.ToldLaws.{where_ok}
use Rattle.mr_show.proofs.AloneLaws.{alone_told}
use Rattle.mr_show.proofs.shown.ran_alone.Goals as goal

pub ended-requires-clause-feet : goal.ended-requires-clause-feet
ended-requires-clause-feet c =
    let short = ap length c.new-kept.ensures in
    where_ok c.run-outcome.result (omega (arith, short))

pub ended-requires-clause-told : goal.ended-requires-clause-told
ended-requires-clause-told c =
    let part = c.args.part in
    let text = c.args.text.now in
    let p = c.args.p.now in
    let w = c.args.w.now in
    let outcome = c.run-outcome.result in
    subst (λ (rows : List Allocation). IsToldAs part text p w rows [] [] c.new-kept.result outcome)
    (sym c.new-rows.ensures.items)
    (subst (λ (feet : List Footprint). IsToldAs part text p w [] [] [] feet outcome) (sym c.new-kept.ensures)
    (alone_told text p w c.requires.alone outcome c.run-outcome.ensures.answer part c.requires.races))
