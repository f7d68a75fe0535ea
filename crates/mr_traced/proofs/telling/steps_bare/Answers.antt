use Rattle.mr_traced.proofs.Common.{named, run_in, IsStepsText, trace_of}
use Rattle.mr_traced.proofs.Chains.{told_bare}
use Rattle.mr_traced.proofs.telling.steps_bare.Goals as goal

pub returns : goal.returns
returns c =
    told_bare (IsStepsText c.args.from c.args.to) c.in_ok-steps_of.field-0 (run_in (trace_of c.args.trace.now))
    c.in_ok-run.run'.items
    c.as_slice.result.now (named c.none-places.result) c.in_ok-run.ensures.run c.as_slice.ensures.value
    c.none-places.ensures c.in_ok-steps_of.ensures
