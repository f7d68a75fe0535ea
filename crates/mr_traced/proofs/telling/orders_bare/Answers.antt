use Rattle.mr_traced.proofs.Common.{IsOrdersText, count_either, named, run_in, trace_of}
use Rattle.mr_traced.proofs.Chains.{bare_by}
use Rattle.mr_traced.proofs.telling.orders_bare.Goals as goal

pub returns : goal.returns
returns c =
    bare_by count_either IsOrdersText c.in_ok-orders_of.field-0 (run_in (trace_of c.args.trace.now))
    c.in_ok-run.run'.items
    c.as_slice.result.now (named c.none-places.result) c.in_ok-run.ensures.run c.as_slice.ensures.value
    c.none-places.ensures c.in_ok-orders_of.ensures
