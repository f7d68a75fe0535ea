use Rattle.mr_traced.proofs.Common.{named, run_in, IsPictureText, trace_of}
use Rattle.mr_traced.proofs.Chains.{told_bare}
use Rattle.mr_traced.proofs.telling.picture_bare.Goals as goal

pub returns : goal.returns
returns c =
    told_bare (IsPictureText c.args.asked) c.in_ok-picture_of.field-0 (run_in (trace_of c.args.trace.now))
    c.in_ok-run.run'.items
    c.as_slice.result.now (named c.none-places.result) c.in_ok-run.ensures.run c.as_slice.ensures.value
    c.none-places.ensures c.in_ok-picture_of.ensures
