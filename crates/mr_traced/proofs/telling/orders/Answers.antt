use Rattle.mr_traced.proofs.Common.{List, Result, subst, Footprint, Place, trace_again, TellsBy, IsOrdersText, count_either, named_of, run_in, seen_bare, seen_in}
use Rattle.mr_traced.proofs.telling.orders.Goals as goal

pub returns-in-Some-clause-spelled : goal.returns-in-Some-clause-spelled
returns-in-Some-clause-spelled c = λ run spelled.
    rw c.in-Some.is
    (subst (λ (r : Result (List Footprint) Place). TellsBy count_either IsOrdersText c.orders_placed.result
    (seen_in (run_in r) (named_of c.in-Some.text.now)))
    (trace_again c.args.trace.now run spelled) c.orders_placed.ensures)

pub returns-in-None-clause-spelled : goal.returns-in-None-clause-spelled
returns-in-None-clause-spelled c = λ run spelled.
    rw c.in-None.is
    (subst (λ (r : Result (List Footprint) Place). TellsBy count_either IsOrdersText c.orders_bare.result
    (seen_bare (run_in r)))
    (trace_again c.args.trace.now run spelled) c.orders_bare.ensures)
